-- The lines of bytes that are cut at a line's end, and how far an input was read.
use Rattle.std.proofs.Common.{◌≡◌, ℕ, ◌<◌, List, [], ◌∷◌, ◌++◌, length, map, Bool, true, false, ◌==◌, refl, sym, ◌∙◌, ap, subst, append-nil, append_assoc, Option, None, Some, inl, inr, ◌⊎◌, arith}
use Rattle.std.specs.Option.{option_map}
use Rattle.std.specs.List.{slice_split, onto_first}
use Rattle.std.specs.Str.Lines.{lines, lines_of_parts, strip_carriage_return}
use Rattle.std.proofs.lemmas.List.{append_cancel_right}
use Rattle.std.proofs.lemmas.List.Elements.{All-head, All-tail}
use Rattle.std.proofs.lemmas.List.Splits.{slice_split-cons_yes, slice_split-cons_no, length-slice_split}
use Rattle.fluid_io.specs.Causes.{Tells}
use Rattle.fluid_io.specs.Streams.{Reading, Gives}
use Rattle.fluid_io.specs.Reader.{Reader}
use Rattle.fluid_io.specs.Lines.{ahead, EndsInLineFeed, IsCutOff, IsPlain, PassesLine}
use Rattle.fluid_io.specs.declared.lines.TheConstants.{LONGEST_TEXT}
use Rattle.fluid_pipe.specs.Meaning.{Meaning, Accepts}
use Rattle.fluid_pipe.specs.Output.{AreWhole, IsBegun, IsInterrupted}
use Rattle.fluid_pipe.specs.Progress.{IsReadTo}

-- ---- parts round a line feed

onto-first : (x : ℕ) (parts more : List (List ℕ)) → 0 < length parts → onto_first x (parts ++ more) ≡ onto_first x parts ++ more
onto-first x [] more some = absurd (omega arith)
onto-first x (part ∷ parts) more some = refl

parts-step : (x : ℕ) (prefix more : List ℕ) (parts : List (List ℕ)) (feed : Bool) → (x == 10) ≡ feed →
    slice_split (λ b. b == 10) (prefix ++ 10 ∷ more) ≡ slice_split (λ b. b == 10) prefix ++ parts →
    slice_split (λ b. b == 10) (x ∷ (prefix ++ 10 ∷ more)) ≡ slice_split (λ b. b == 10) (x ∷ prefix) ++ parts
parts-step x prefix more parts true is h =
    slice_split-cons_yes (λ b. b == 10) x (prefix ++ 10 ∷ more) is ∙ ap (λ p. [] ∷ p) h
    ∙ ap (λ p. p ++ parts) (sym (slice_split-cons_yes (λ b. b == 10) x prefix is))
parts-step x prefix more parts false is h =
    slice_split-cons_no (λ b. b == 10) x (prefix ++ 10 ∷ more) is ∙ ap (onto_first x) h
    ∙ onto-first x (slice_split (λ b. b == 10) prefix) parts (omega (arith, length-slice_split (λ b. b == 10) prefix))
    ∙ ap (λ p. p ++ parts) (sym (slice_split-cons_no (λ b. b == 10) x prefix is))

parts-fed : (prefix more : List ℕ) → slice_split (λ b. b == 10) (prefix ++ 10 ∷ more) ≡ slice_split (λ b. b == 10) prefix ++ slice_split (λ b. b == 10) more
parts-fed [] more = refl
parts-fed (x ∷ prefix) more = parts-step x prefix more (slice_split (λ b. b == 10) more) (x == 10) refl (parts-fed prefix more)

of-parts : (parts more : List (List ℕ)) → 0 < length more → lines_of_parts (parts ++ more) ≡ map strip_carriage_return parts ++ lines_of_parts more
of-parts [] more some = refl
of-parts (part ∷ []) [] some = absurd (omega arith)
of-parts (part ∷ []) (next ∷ more) some = refl
of-parts (part ∷ next ∷ parts) more some = ap (λ ls. strip_carriage_return part ∷ ls) (of-parts (next ∷ parts) more some)

lines-at : (prefix more : List ℕ) → lines (prefix ++ 10 ∷ more) ≡ map strip_carriage_return (slice_split (λ b. b == 10) prefix) ++ lines more
lines-at prefix more =
    ap lines_of_parts (parts-fed prefix more)
    ∙ of-parts (slice_split (λ b. b == 10) prefix) (slice_split (λ b. b == 10) more) (omega (arith, length-slice_split (λ b. b == 10) more))

lines-fed : (bytes behind : List ℕ) → EndsInLineFeed bytes → lines (bytes ++ behind) ≡ lines bytes ++ lines behind
lines-fed bytes behind h =
    ap (λ b. lines (b ++ behind)) h.is ∙ ap lines (append_assoc h.prefix (10 ∷ []) behind) ∙ lines-at h.prefix behind
    ∙ ap (λ ls. ls ++ lines behind) (sym (ap lines h.is ∙ lines-at h.prefix [] ∙ append-nil (map strip_carriage_return (slice_split (λ b. b == 10) h.prefix))))

-- the lines of whole lines and of the bytes behind them
pub lines-whole : (bytes behind : List ℕ) → AreWhole bytes behind → lines (bytes ++ behind) ≡ lines bytes ++ lines behind
lines-whole bytes behind (inl none) = rw none refl
lines-whole bytes behind (inr (inl fed)) = lines-fed bytes behind fed
lines-whole bytes behind (inr (inr last)) =
    subst (λ b. lines (bytes ++ b) ≡ lines bytes ++ lines b) (sym last) (ap lines (append-nil bytes) ∙ sym (append-nil (lines bytes)))

-- ---- how far an input was read

pub read-none : (left : Option (List ℕ)) → Tells left (λ bytes. IsReadTo bytes (option_map (λ rest. [] ++ rest) left) [])
read-none None = tt
read-none (Some bytes) = record { whole = []; rest = bytes; are_ahead = refl; split = refl; are_whole = inl refl; are_lines = refl }

-- what is behind a line that was passed over
record Behind (bytes rest : List ℕ) (new : Option (List ℕ)) : Type 0 where
  more : List ℕ
  is : new ≡ Some more
  split : rest ≡ bytes ++ more

behind : (bytes rest : List ℕ) (old new : Option (List ℕ)) → old ≡ Some rest → Gives bytes old new → Behind bytes rest new
behind bytes rest old None is gives = cc
behind bytes rest old (Some more) is gives = record { more = more; is = refl; split = cc }

none-of : (bytes behind : List ℕ) → bytes ++ behind ≡ [] → bytes ≡ []
none-of [] behind h = refl
none-of (x ∷ bytes) behind h = cc

before-more : (whole bytes more : List ℕ) → AreWhole whole (bytes ++ more) → AreWhole whole bytes
before-more whole bytes more (inl none) = inl none
before-more whole bytes more (inr (inl fed)) = inr (inl fed)
before-more whole bytes more (inr (inr last)) = inr (inr (none-of bytes more last))

told-behind : (P : List ℕ → Type 0) (new : Option (List ℕ)) (more : List ℕ) → new ≡ Some more → Tells new P → P more
told-behind P None more is h = cc
told-behind P (Some bytes) more is h = let same : bytes ≡ more = cc in subst P same h

whole-more : (whole bytes more : List ℕ) (new : Option (List ℕ)) → new ≡ Some more → EndsInLineFeed bytes ⊎ Tells new (λ behind. behind ≡ []) →
    AreWhole (whole ++ bytes) more
whole-more whole bytes more new is (inl fed) =
    inr (inl (record { prefix = whole ++ fed.prefix; is = ap (λ b. whole ++ b) fed.is ∙ sym (append_assoc whole fed.prefix (10 ∷ [])) }))
whole-more whole bytes more new is (inr last) = inr (inr (told-behind (λ b. b ≡ []) new more is last))

read-one : (bytes : List ℕ) (old new : Option (List ℕ)) (before : List (List ℕ)) (line : List ℕ) → IsReadTo bytes old before → PassesLine line old new →
    IsReadTo bytes new (before ++ line ∷ [])
read-one bytes old new before line r p =
    let b = behind p.bytes r.rest old new r.are_ahead p.gives in
    record {
      whole = r.whole ++ p.bytes;
      rest = b.more;
      are_ahead = b.is;
      split = r.split ∙ ap (λ s. r.whole ++ s) b.split ∙ sym (append_assoc r.whole p.bytes b.more);
      are_whole = whole-more r.whole p.bytes b.more new b.is p.ended;
      are_lines = lines-whole r.whole p.bytes (before-more r.whole p.bytes b.more (subst (AreWhole r.whole) b.split r.are_whole))
          ∙ ap (λ ls. ls ++ lines p.bytes) r.are_lines ∙ ap (λ ls. before ++ ls) p.are;
    }

-- a line more was read
pub read-more : (left old new : Option (List ℕ)) (before : List (List ℕ)) (line : List ℕ) → PassesLine line old new →
    Tells left (λ bytes. IsReadTo bytes old before) → Tells left (λ bytes. IsReadTo bytes new (before ++ line ∷ []))
read-more None old new before line p r = tt
read-more (Some bytes) old new before line p r = read-one bytes old new before line r p

-- ---- an input that was cut off

cut-one : {W : Type 0} (m : Meaning W) (bytes output : List ℕ) (r : Reader) (s s' : Reading) (before : List (List ℕ)) → r.limit ≡ LONGEST_TEXT →
    IsReadTo bytes (ahead r s) before → IsCutOff r s s' → Accepts m [] before → output ≡ m.output before → IsInterrupted m s'.left bytes output
cut-one m bytes output r s s' before limit read c accepted text =
    let b = behind c.part read.rest (ahead r s) s'.left read.are_ahead c.gives in
    record {
      whole = read.whole;
      part = c.part;
      rest = b.more;
      are_left = b.is;
      split = read.split ∙ ap (λ t. read.whole ++ t) b.split;
      are_whole = subst (AreWhole read.whole) b.split read.are_whole;
      plain = c.plain;
      few = rw limit at c.few;
      accepted = subst (Accepts m []) (sym read.are_lines) accepted;
      text = text ∙ ap m.output (sym read.are_lines);
    }

pub cut-off : {W : Type 0} (m : Meaning W) (left : Option (List ℕ)) (output : List ℕ) (r : Reader) (s s' : Reading) (before : List (List ℕ)) → r.limit ≡ LONGEST_TEXT →
    Tells left (λ bytes. IsReadTo bytes (ahead r s) before) → IsCutOff r s s' → Accepts m [] before → output ≡ m.output before →
    Tells left (λ bytes. IsInterrupted m s'.left bytes output)
cut-off m None output r s s' before limit read c accepted text = tt
cut-off m (Some bytes) output r s s' before limit read c accepted text = cut-one m bytes output r s s' before limit read c accepted text

-- the output is a beginning of the whole then
pub begun-cut : {W : Type 0} (m : Meaning W) (left : Option (List ℕ)) (input output : List ℕ) → IsInterrupted m left input output → IsBegun m input output
begun-cut m left input output h = record {
  before = lines h.whole;
  behind = lines (h.part ++ h.rest);
  split = ap lines h.split ∙ lines-whole h.whole (h.part ++ h.rest) h.are_whole;
  accepted = h.accepted;
  text = h.text;
}

-- ---- two ways to cut the same bytes

-- the first bytes are at the front of the second
pub record IsPrefix (prefix bytes : List ℕ) : Type 0 where
  pub more : List ℕ
  pub split : bytes ≡ prefix ++ more

no-feed : (prefix more : List ℕ) → IsPlain (prefix ++ 10 ∷ more) → ⊥
no-feed [] more h = let ten = All-head (λ b. (b == 10) ≡ false) 10 more h in cc
no-feed (x ∷ prefix) more h = no-feed prefix more (All-tail (λ b. (b == 10) ≡ false) x (prefix ++ 10 ∷ more) h)

-- bytes up to a line feed are at the front of those behind which no line feed stands
fed-prefix : (prefix part whole plain : List ℕ) → IsPlain plain → prefix ++ 10 ∷ part ≡ whole ++ plain → IsPrefix (prefix ++ 10 ∷ []) whole
fed-prefix prefix part [] plain h is = absurd (no-feed prefix part (subst IsPlain (sym is) h))
fed-prefix [] part (y ∷ whole) plain h is = record { more = whole; split = cc }
fed-prefix (x ∷ prefix) part (y ∷ whole) plain h is =
    let first : y ≡ x = cc in
    let rest = fed-prefix prefix part whole plain h cc in
    record { more = rest.more; split = ap (λ b. b ∷ whole) first ∙ ap (λ bs. x ∷ bs) rest.split }

-- whole lines that were read are among those that an interrupted run took
pub prefix-of : (whole part rest whole' part' : List ℕ) → EndsInLineFeed whole → IsPlain part' → whole ++ (part ++ rest) ≡ whole' ++ (part' ++ rest) →
    IsPrefix whole whole'
prefix-of whole part rest whole' part' fed plain is =
    let both : whole ++ part ≡ whole' ++ part' = append_cancel_right (whole ++ part) (whole' ++ part') rest
    (append_assoc whole part rest ∙ is ∙ sym (append_assoc whole' part' rest)) in
    let f = fed-prefix fed.prefix part whole' part' plain (sym (append_assoc fed.prefix (10 ∷ []) part) ∙ ap (λ b. b ++ part) (sym fed.is) ∙ both) in
    record { more = f.more; split = f.split ∙ ap (λ b. b ++ f.more) (sym fed.is) }
