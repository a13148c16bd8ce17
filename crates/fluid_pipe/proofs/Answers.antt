-- What the answer of the reader of lines tells of the first line that was ahead.
use Rattle.std.proofs.Common.{◌≡◌, ℕ, ◌+◌, List, [], ◌∷◌, ◌++◌, length, refl, sym, ◌∙◌, ap, append-nil, append_assoc, Bool, true, false, Option, None, Some, Result, Ok, Err, arith, ◌≤◌, nat_lt, length-append}
use Rattle.std.proofs.lemmas.Bool.Decides.{nat_tests}
use Rattle.std.specs.Prelude.{if◌then◌else◌, option_map}
use Rattle.std.specs.Str.{is_utf8}
use Rattle.std.specs.Str.Lines.{lines}
use Rattle.fluid_io.specs.Causes.{Tells}
use Rattle.fluid_io.specs.Reader.{Reader}
use Rattle.fluid_io.specs.Lines.{line_answer, first_answer, next_answer, AnswersBytes, IsReaderAfter, PassesLine}
use Rattle.fluid_io.specs.declared.lines.TheConstants.{LONGEST_TEXT, MOST_LINES}
use Rattle.fluid_io.specs.declared.line.Line.{Line}
use Rattle.fluid_io.specs.declared.line.Line.TheVariants as given
use Rattle.fluid_io.specs.declared.line.LineFault.{LineFault}
use Rattle.fluid_io.specs.declared.line.LineFault.TheVariants as line
use Rattle.fluid_pipe.specs.declared.refusal.Refusal.TheVariants.{TooLong, NotUtf8, TooManyLines, Text}
use Rattle.fluid_pipe.specs.Meaning.{Meaning, Accepts, refusal, first_of, answer_refusal}
use Rattle.fluid_pipe.specs.Taking.{TakesText}
use Rattle.fluid_pipe.specs.Progress.{Reached, RefusesLine, FailsLine, TakesLine}

-- the answer for a line, by what it is
abbrev line_answer_by : Bool → Bool → Bool → ℕ → List ℕ → Result Line LineFault
line_answer_by long utf8 many n x =
    if long then Err (line.TooLong n) else (if utf8 then (if many then Err (line.TooMany n) else Ok (given.Text x)) else Err (line.NotUtf8 n))

-- an answer for the first of these lines that isn't the end has a line
pub record HasLine (answer : Result Line LineFault) (limit n : ℕ) (ls : List (List ℕ)) : Type 0 where
  pub line : List ℕ
  pub behind : List (List ℕ)
  pub split : ls ≡ line ∷ behind
  pub answers : answer ≡ line_answer limit n line

pub fault-line : (f : LineFault) (limit n : ℕ) (ls : List (List ℕ)) → Err f ≡ first_answer limit n ls → HasLine (Err f) limit n ls
fault-line f limit n [] h = cc
fault-line f limit n (x ∷ xs) h = record { line = x; behind = xs; split = refl; answers = h }

pub text-line : (t : List ℕ) (limit n : ℕ) (ls : List (List ℕ)) → Ok (given.Text t) ≡ first_answer limit n ls → HasLine (Ok (given.Text t)) limit n ls
text-line t limit n [] h = cc
text-line t limit n (x ∷ xs) h = record { line = x; behind = xs; split = refl; answers = h }

-- ---- a line with a fault

too_long-number : (long utf8 many : Bool) (m n : ℕ) (x : List ℕ) → Err (line.TooLong m) ≡ line_answer_by long utf8 many n x → m ≡ n
too_long-number true utf8 many m n x h = cc
too_long-number false true true m n x h = cc
too_long-number false true false m n x h = cc
too_long-number false false many m n x h = cc

not_utf8-number : (long utf8 many : Bool) (m n : ℕ) (x : List ℕ) → Err (line.NotUtf8 m) ≡ line_answer_by long utf8 many n x → m ≡ n
not_utf8-number true utf8 many m n x h = cc
not_utf8-number false true true m n x h = cc
not_utf8-number false true false m n x h = cc
not_utf8-number false false many m n x h = cc

too_many-number : (long utf8 many : Bool) (m n : ℕ) (x : List ℕ) → Err (line.TooMany m) ≡ line_answer_by long utf8 many n x → m ≡ n
too_many-number true utf8 many m n x h = cc
too_many-number false true true m n x h = cc
too_many-number false true false m n x h = cc
too_many-number false false many m n x h = cc

text-same : (long utf8 many : Bool) (n : ℕ) (t x : List ℕ) → Ok (given.Text t) ≡ line_answer_by long utf8 many n x → t ≡ x
text-same true utf8 many n t x h = cc
text-same false true true n t x h = cc
text-same false true false n t x h = cc
text-same false false many n t x h = cc

text-few : (long utf8 : Bool) (n : ℕ) (t x : List ℕ) → Ok (given.Text t) ≡ line_answer_by long utf8 (nat_lt MOST_LINES n) n x → n ≤ MOST_LINES
text-few long utf8 n t x h = few (nat_lt MOST_LINES n) refl long utf8 h
  where
    few : (many : Bool) → nat_lt MOST_LINES n ≡ many → (long utf8 : Bool) → Ok (given.Text t) ≡ line_answer_by long utf8 many n x → n ≤ MOST_LINES
    few true e true utf8 h = cc
    few true e false true h = cc
    few true e false false h = cc
    few false e long utf8 h = grind (arith, nat_tests, e)

-- a reader that gives a line has given at most as many as an input has
pub few : (r : Reader) (told : Option (List ℕ)) (t : List ℕ) → AnswersBytes r told (Ok (given.Text t)) → r.count + 1 ≤ MOST_LINES
few r told t a = go r.failed refl
  where
    go : (failed : Bool) → r.failed ≡ failed → r.count + 1 ≤ MOST_LINES
    go true e = let h : Ok (given.Text t) ≡ Ok given.End = rw e at a.answered in cc
    go false e =
        let h : Ok (given.Text t) ≡ first_answer r.limit (r.count + 1) (lines a.bytes) = rw e at a.answered in
        let first = text-line t r.limit (r.count + 1) (lines a.bytes) h in
        text-few (nat_lt r.limit (length first.line)) (is_utf8 first.line) (r.count + 1) t first.line first.answers

-- the answer of a reader that goes on, for lines that come behind these
reads : {W : Type 0} (m : Meaning W) (Keeps : List (List ℕ) → Type 0) (before : List (List ℕ)) (gone : List ℕ) (r : Reader) (waiting : List ℕ) (answer : Result Line LineFault) (ls : List (List ℕ)) →
    Reached m Keeps before gone r waiting → answer ≡ next_answer r ls → answer ≡ first_answer LONGEST_TEXT (length before + 1) ls
reads m Keeps before gone r waiting answer ls reached h = rw (reached.reading, reached.limit, reached.number) at h

pub too_long : {W : Type 0} (m : Meaning W) (Keeps : List (List ℕ) → Type 0) (before : List (List ℕ)) (gone : List ℕ) (r : Reader) (waiting : List ℕ) (told : Option (List ℕ)) (n : ℕ) →
    Reached m Keeps before gone r waiting → AnswersBytes r told (Err (line.TooLong n)) → RefusesLine m Keeps before told n TooLong
unfolding refusal
too_long m Keeps before gone r waiting told n reached a =
    let h = fault-line _ _ _ _ (reads m Keeps before gone r waiting _ _ reached a.answered) in
    record {
      bytes = a.bytes;
      told = a.are_told;
      line = h.line;
      behind = h.behind;
      split = h.split;
      its_number = too_long-number (nat_lt LONGEST_TEXT (length h.line)) (is_utf8 h.line) (nat_lt MOST_LINES (length before + 1)) n _ h.line h.answers;
      refused = ap (λ answer. first_of (answer_refusal answer) (option_map Text (m.refusal before h.line))) (sym h.answers);
      keeps = reached.keeps;
    }

pub not_utf8 : {W : Type 0} (m : Meaning W) (Keeps : List (List ℕ) → Type 0) (before : List (List ℕ)) (gone : List ℕ) (r : Reader) (waiting : List ℕ) (told : Option (List ℕ)) (n : ℕ) →
    Reached m Keeps before gone r waiting → AnswersBytes r told (Err (line.NotUtf8 n)) → RefusesLine m Keeps before told n NotUtf8
unfolding refusal
not_utf8 m Keeps before gone r waiting told n reached a =
    let h = fault-line _ _ _ _ (reads m Keeps before gone r waiting _ _ reached a.answered) in
    record {
      bytes = a.bytes;
      told = a.are_told;
      line = h.line;
      behind = h.behind;
      split = h.split;
      its_number = not_utf8-number (nat_lt LONGEST_TEXT (length h.line)) (is_utf8 h.line) (nat_lt MOST_LINES (length before + 1)) n _ h.line h.answers;
      refused = ap (λ answer. first_of (answer_refusal answer) (option_map Text (m.refusal before h.line))) (sym h.answers);
      keeps = reached.keeps;
    }

pub too_many : {W : Type 0} (m : Meaning W) (Keeps : List (List ℕ) → Type 0) (before : List (List ℕ)) (gone : List ℕ) (r : Reader) (waiting : List ℕ) (told : Option (List ℕ)) (n : ℕ) →
    Reached m Keeps before gone r waiting → AnswersBytes r told (Err (line.TooMany n)) → RefusesLine m Keeps before told n TooManyLines
unfolding refusal
too_many m Keeps before gone r waiting told n reached a =
    let h = fault-line _ _ _ _ (reads m Keeps before gone r waiting _ _ reached a.answered) in
    record {
      bytes = a.bytes;
      told = a.are_told;
      line = h.line;
      behind = h.behind;
      split = h.split;
      its_number = too_many-number (nat_lt LONGEST_TEXT (length h.line)) (is_utf8 h.line) (nat_lt MOST_LINES (length before + 1)) n _ h.line h.answers;
      refused = ap (λ answer. first_of (answer_refusal answer) (option_map Text (m.refusal before h.line))) (sym h.answers);
      keeps = reached.keeps;
    }

-- ---- a line that is given

-- the text that was given is the first line ahead, and it alone decides whether it is refused
pub record IsGiven {W : Type 0} (m : Meaning W) (before : List (List ℕ)) (told : Option (List ℕ)) (t : List ℕ) : Type 0 where
  pub bytes : List ℕ
  pub are_told : Tells told (λ known. known ≡ bytes)
  pub behind : List (List ℕ)
  pub split : lines bytes ≡ t ∷ behind
  pub by_text : refusal m before t ≡ option_map Text (m.refusal before t)

pub given_line : {W : Type 0} (m : Meaning W) (Keeps : List (List ℕ) → Type 0) (before : List (List ℕ)) (gone : List ℕ) (r : Reader) (waiting : List ℕ) (told : Option (List ℕ)) (t : List ℕ) →
    Reached m Keeps before gone r waiting → AnswersBytes r told (Ok (given.Text t)) → IsGiven m before told t
unfolding refusal
given_line m Keeps before gone r waiting told t reached a =
    let h = text-line _ _ _ _ (reads m Keeps before gone r waiting _ _ reached a.answered) in
    let same = text-same (nat_lt LONGEST_TEXT (length h.line)) (is_utf8 h.line) (nat_lt MOST_LINES (length before + 1)) (length before + 1) t h.line h.answers in
    let answers : Ok (given.Text t) ≡ line_answer LONGEST_TEXT (length before + 1) t =
    h.answers ∙ ap (λ x. line_answer LONGEST_TEXT (length before + 1) x) (sym same) in
    record {
      bytes = a.bytes;
      are_told = a.are_told;
      behind = h.behind;
      split = h.split ∙ ap (λ x. x ∷ h.behind) (sym same);
      by_text = ap (λ answer. first_of (answer_refusal answer) (option_map Text (m.refusal before t))) (sym answers);
    }

accepts-push : {W : Type 0} (m : Meaning W) (before ls : List (List ℕ)) (line : List ℕ) → Accepts m before ls →
    refusal m (before ++ ls) line ≡ None → Accepts m before (ls ++ line ∷ [])
accepts-push m before [] line a h = (rw append-nil at h, tt)
accepts-push m before (l ∷ ls) line a h =
    (a.0, accepts-push m (before ++ l ∷ []) ls line a.1 (rw append_assoc h))

pub takes_line : {W : Type 0} (m : Meaning W) (Keeps Kept : List (List ℕ) → Type 0) (before : List (List ℕ)) (gone : List ℕ) (r r' : Reader) (waiting waiting' : List ℕ)
    (told old new : Option (List ℕ)) (t : List ℕ) → Reached m Keeps before gone r waiting → AnswersBytes r told (Ok (given.Text t)) →
    IsReaderAfter r r' (Ok (given.Text t)) → PassesLine t old new → TakesText m Kept before t waiting waiting' → TakesLine m Kept before gone old new r' waiting'
takes_line m Keeps Kept before gone r r' waiting waiting' told old new t reached a after passes taken =
    let g = given_line m Keeps before gone r waiting told t reached a in
    record {
      line = t;
      passes = passes;
      reached = record {
        number = after.count ∙ ap (λ n. n + 1) reached.number ∙ sym (length-append before (t ∷ []));
        limit = after.limit ∙ reached.limit;
        reading = rw reached.reading at after.failed;
        accepted = accepts-push m [] before t reached.accepted (g.by_text ∙ ap (option_map Text) taken.accepted);
        keeps = taken.keeps;
        written = ap (λ s. gone ++ s) taken.waits ∙ sym (append_assoc gone waiting taken.more) ∙ ap (λ s. s ++ taken.more) reached.written ∙ sym taken.output;
      };
    }

pub refuses_line : {W : Type 0} (m : Meaning W) (Keeps Kept : List (List ℕ) → Type 0) (before : List (List ℕ)) (gone : List ℕ) (r r' : Reader) (waiting : List ℕ)
    (told : Option (List ℕ)) (t : List ℕ) (why : W) → Reached m Keeps before gone r waiting → AnswersBytes r told (Ok (given.Text t)) →
    IsReaderAfter r r' (Ok (given.Text t)) → m.refusal before t ≡ Some why → Kept before → RefusesLine m Kept before told r'.count (Text why)
refuses_line m Keeps Kept before gone r r' waiting told t why reached a after refused kept =
    let g = given_line m Keeps before gone r waiting told t reached a in
    record {
      bytes = g.bytes;
      told = g.are_told;
      line = t;
      behind = g.behind;
      split = g.split;
      its_number = after.count ∙ ap (λ n. n + 1) reached.number;
      refused = g.by_text ∙ ap (option_map Text) refused;
      keeps = kept;
    }

pub fails_line : {W : Type 0} (m : Meaning W) (Keeps Fails : List (List ℕ) → Type 0) (before : List (List ℕ)) (gone : List ℕ) (r : Reader) (waiting : List ℕ)
    (told : Option (List ℕ)) (t : List ℕ) → Reached m Keeps before gone r waiting → AnswersBytes r told (Ok (given.Text t)) →
    Fails (before ++ t ∷ []) → FailsLine Fails before told
fails_line m Keeps Fails before gone r waiting told t reached a fails =
    let g = given_line m Keeps before gone r waiting told t reached a in
    record { bytes = g.bytes; told = g.are_told; line = t; behind = g.behind; split = g.split; fails = fails }
