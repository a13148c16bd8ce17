-- What is refused among lines, and that it excludes what is accepted.
use Rattle.std.proofs.Common.{◌≡◌, ◌⊎◌, ℕ, List, [], ◌∷◌, ◌++◌, refl, ap, ◌∙◌, subst, append-nil, append_assoc, Option, None, Some, inl, inr}
use Rattle.std.specs.Str.Lines.{lines}
use Rattle.fluid_io.specs.Lines.{EndsInLineFeed}
use Rattle.fluid_pipe.specs.declared.refusal.Refusal.{Refusal}
use Rattle.fluid_pipe.specs.Meaning.{Meaning, refusal, Accepts}
use Rattle.fluid_pipe.specs.Output.{IsWhole, IsRefused, IsBegun, IsInterrupted, Wrote, HasRefused}
use Rattle.fluid_pipe.proofs.WholeLines.{begun-cut, prefix-of, lines-whole}

-- a line that is accepted isn't refused
accepts-at : {W : Type 0} (m : Meaning W) (before ls : List (List ℕ)) (line : List ℕ) (behind : List (List ℕ)) → Accepts m before (ls ++ line ∷ behind) →
    refusal m (before ++ ls) line ≡ None
accepts-at m before [] line behind a = rw append-nil a.0
accepts-at m before (l ∷ ls) line behind a = rw (← append_assoc before (l ∷ []) ls) (accepts-at m (before ++ l ∷ []) ls line behind a.1)

some-same : (source : Option (List ℕ)) (a b : List ℕ) → source ≡ Some a → source ≡ Some b → a ≡ b
some-same source a b h k = cc

-- ---- each input is one of accepted and refused

-- a line of these, which come behind those before, is refused
record RefusedAmong {W : Type 0} (m : Meaning W) (before ls : List (List ℕ)) : Type 0 where
  pub ahead : List (List ℕ)
  pub line : List ℕ
  pub behind : List (List ℕ)
  pub why : Refusal W
  pub split : ls ≡ ahead ++ line ∷ behind
  pub refused : refusal m (before ++ ahead) line ≡ Some why

one-more : {W : Type 0} (m : Meaning W) (before : List (List ℕ)) (line : List ℕ) (ls : List (List ℕ)) →
    Accepts m (before ++ line ∷ []) ls ⊎ RefusedAmong m (before ++ line ∷ []) ls → (why : Option (Refusal W)) → refusal m before line ≡ why →
    Accepts m before (line ∷ ls) ⊎ RefusedAmong m before (line ∷ ls)
one-more m before line ls rest (Some why) is =
    inr (record { ahead = []; line = line; behind = ls; why = why; split = refl; refused = rw append-nil is })
one-more m before line ls (inl all) None is = inl (is, all)
one-more m before line ls (inr r) None is = inr (record {
  ahead = line ∷ r.ahead;
  line = r.line;
  behind = r.behind;
  why = r.why;
  split = ap (λ rest. line ∷ rest) r.split;
  refused = rw (← append_assoc before (line ∷ []) r.ahead) r.refused;
})

one-among : {W : Type 0} (m : Meaning W) (before ls : List (List ℕ)) → Accepts m before ls ⊎ RefusedAmong m before ls
one-among m before [] = inl tt
one-among m before (line ∷ ls) = one-more m before line ls (one-among m (before ++ line ∷ []) ls) (refusal m before line) refl

refused-of : {W : Type 0} (m : Meaning W) (bytes : List ℕ) → Accepts m [] (lines bytes) ⊎ RefusedAmong m [] (lines bytes) →
    Accepts m [] (lines bytes) ⊎ HasRefused m bytes
refused-of m bytes (inl all) = inl all
refused-of m bytes (inr r) =
    inr (record { before = r.ahead; line = r.line; behind = r.behind; why = r.why; split = r.split; refused = r.refused })

pub one_of : {W : Type 0} (m : Meaning W) (bytes : List ℕ) → Accepts m [] (lines bytes) ⊎ HasRefused m bytes
one_of m bytes = refused-of m bytes (one-among m [] (lines bytes))

pub not_both : {W : Type 0} (m : Meaning W) (bytes : List ℕ) → Accepts m [] (lines bytes) → HasRefused m bytes → ⊥
not_both m bytes all r =
    let accepted = accepts-at m [] r.before r.line r.behind (rw r.split at all) in
    let refused = r.refused in
    cc

pub wrote-whole : {W : Type 0} (m : Meaning W) (bytes : List ℕ) (left old new : Option (List ℕ)) → left ≡ Some bytes → Wrote (IsWhole m) left old new → Accepts m [] (lines bytes)
wrote-whole m bytes left old new is h = let w = rw is at h in w.2.accepted

pub wrote-refused : {W : Type 0} (m : Meaning W) (bytes : List ℕ) (left old new : Option (List ℕ)) → left ≡ Some bytes → Wrote (IsRefused m) left old new → HasRefused m bytes
wrote-refused m bytes left old new is h =
    let w = rw is at h in
    let r = w.2 in
    record { before = r.before; line = r.line; behind = r.behind; why = r.why; split = r.split; refused = r.refused }

-- a refused line is one of more lines too
pub refused-more : {W : Type 0} (m : Meaning W) (whole more : List ℕ) → EndsInLineFeed whole → HasRefused m whole → HasRefused m (whole ++ more)
refused-more m whole more fed r = record {
  before = r.before;
  line = r.line;
  behind = r.behind ++ lines more;
  why = r.why;
  split = lines-whole whole more (inr (inl fed)) ∙ ap (λ ls. ls ++ lines more) r.split ∙ append_assoc r.before (r.line ∷ r.behind) (lines more);
  refused = r.refused;
}

pub wrote-begun : {W : Type 0} (m : Meaning W) (left source old new : Option (List ℕ)) → Wrote (IsInterrupted m source) left old new → Wrote (IsBegun m) left old new
wrote-begun m None source old new h = tt
wrote-begun m (Some input) source old new h = (h.0, h.1, begun-cut m source input h.0 h.2)

-- a whole line that was read isn't refused where the run was interrupted
none-refused : {W : Type 0} (m : Meaning W) (source : Option (List ℕ)) (whole part rest output : List ℕ) → source ≡ Some rest → EndsInLineFeed whole →
    IsInterrupted m source (whole ++ (part ++ rest)) output → HasRefused m whole → ⊥
none-refused m source whole part rest output is fed h r =
    let same : h.rest ≡ rest = some-same source h.rest rest h.are_left is in
    let f = prefix-of whole part rest h.whole h.part fed h.plain (h.split ∙ ap (λ b. h.whole ++ (h.part ++ b)) same) in
    not_both m (whole ++ f.more) (subst (λ b. Accepts m [] (lines b)) f.split h.accepted) (refused-more m whole f.more fed r)

pub wrote-interrupted : {W : Type 0} (m : Meaning W) (left source old new : Option (List ℕ)) (whole part rest : List ℕ) → left ≡ Some (whole ++ (part ++ rest)) → source ≡ Some rest →
    EndsInLineFeed whole → Wrote (IsInterrupted m source) left old new → HasRefused m whole → ⊥
wrote-interrupted m left source old new whole part rest is source_is fed h r =
    let w = rw is at h in none-refused m source whole part rest w.0 source_is fed w.2 r
