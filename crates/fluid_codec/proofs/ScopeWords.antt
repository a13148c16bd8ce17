-- Scopes are held as their words are met.
use Rattle.std.proofs.Common.{◌≡◌, ℕ, List, [], ◌∷◌, Bool, true, false, ◌||◌, Ok, Err, bytes_eq, refl, ap, sym, ◌∙◌}
use Rattle.fluid_json.specs.Tree.{Trees, no_trees, tree}
use Rattle.fluid_types.specs.Forms.{Read, ◌>>=◌, a_text, texts}
use Rattle.fluid_types.specs.Words.{read_word, write_word, summary_word}
use Rattle.fluid_types.specs.Records.{is_among}
use Rattle.fluid_types.specs.declared.fault.Field.{Field}
use Rattle.fluid_types.specs.declared.entries.Scopes.{Scopes}
use Rattle.fluid_codec.specs.Scopes.{and_scope, named_scopes}

-- these scopes, and those that the words name
abbrev pub and_scopes : Scopes → List (List ℕ) → Scopes
and_scopes s words = record {
  read = s.read || is_among words read_word;
  write = s.write || is_among words write_word;
  summary = s.summary || is_among words summary_word;
}

-- the scopes of the values, one after another
abbrev pub held_from : Scopes → Field → Trees → Read Scopes
held_from s f no_trees = Ok s
held_from s f (tree t ts) = a_text f t >>= λ w. held_from (and_scope s w) f ts

or_assoc : (a b c : Bool) → (a || (b || c)) ≡ ((a || b) || c)
or_assoc true b c = refl
or_assoc false b c = refl

made : (a b c d e f : Bool) → a ≡ d → b ≡ e → c ≡ f → (let s : Scopes = record { read = a; write = b; summary = c } in s) ≡ record { read = d; write = e; summary = f }
made a b c d e f p q r = cc

word_met : (s : Scopes) (w : List ℕ) (ws : List (List ℕ)) → and_scopes s (w ∷ ws) ≡ and_scopes (and_scope s w) ws
word_met s w ws =
    made _ _ _ _ _ _
    (or_assoc s.read (bytes_eq read_word w) (is_among ws read_word))
    (or_assoc s.write (bytes_eq write_word w) (is_among ws write_word))
    (or_assoc s.summary (bytes_eq summary_word w) (is_among ws summary_word))

or-false : (b : Bool) → (b || false) ≡ b
or-false true = refl
or-false false = refl

no_more : (s : Scopes) → s ≡ and_scopes s []
no_more s = sym (made _ _ _ _ _ _ (or-false s.read) (or-false s.write) (or-false s.summary))

pub held_from-all : (s : Scopes) (f : Field) (ts : Trees) → held_from s f ts ≡ (texts f ts >>= λ words. Ok (and_scopes s words))
unfolding texts
held_from-all s f no_trees = ap Ok (no_more s)
held_from-all s f (tree t ts) = step (a_text f t) (λ w. held_from (and_scope s w) f ts) (λ w. held_from-all (and_scope s w) f ts)
  where
    rest : (w : List ℕ) (r : Read (List (List ℕ))) → (r >>= λ words. Ok (and_scopes (and_scope s w) words)) ≡ ((r >>= λ ss. Ok (w ∷ ss)) >>= λ words. Ok (and_scopes s words))
    rest w (Ok ss) = ap Ok (sym (word_met s w ss))
    rest w (Err e) = refl

    step : (r : Read (List ℕ)) (g : List ℕ → Read Scopes) → ((w : List ℕ) → g w ≡ (texts f ts >>= λ words. Ok (and_scopes (and_scope s w) words)))
        → (r >>= g) ≡ ((r >>= λ w. texts f ts >>= λ ss. Ok (w ∷ ss)) >>= λ words. Ok (and_scopes s words))
    step (Ok w) g h = h w ∙ rest w (texts f ts)
    step (Err e) g h = refl

pub held_from-none : (f : Field) (ts : Trees) → held_from (record { read = false; write = false; summary = false }) f ts ≡ named_scopes f ts
held_from-none f ts = held_from-all _ f ts
