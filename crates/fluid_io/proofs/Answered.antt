-- The bytes of a line and how they came to their end give the answer for the first of the lines that were ahead.
use Rattle.std.proofs.Common.{◌≡◌, ℕ, ◌+◌, ◌<◌, Bool, true, false, List, [], ◌∷◌, ◌++◌, length, Option, Some, None, Result, Ok, Err, unwrap_or, inl, inr, refl, ap, sym, ◌∙◌, subst, append-nil, lt-ltb, ◌==◌, if◌then◌else◌, ⊎_elim}
use Rattle.std.specs.Option.{option_map}
use Rattle.std.specs.Str.Lines.{lines, strip_carriage_return}
use Rattle.std.proofs.lemmas.Bool.{cases_Bool}
use Rattle.fluid_io.specs.declared.chunk.Ending.{Ending}
use Rattle.fluid_io.specs.declared.chunk.Ending.TheVariants.{LineFeed, Input, Excess}
use Rattle.fluid_io.specs.declared.line.Line.{Line}
use Rattle.fluid_io.specs.declared.line.Line.TheVariants.{Text, End}
use Rattle.fluid_io.specs.declared.line.LineFault.{LineFault}
use Rattle.fluid_io.specs.declared.line.LineFault.TheVariants.{ReadFault, TooLong, NotUtf8, NoMemory, TooMany}
use Rattle.fluid_io.specs.Causes.{Tells}
use Rattle.fluid_io.specs.Chunk.{EndsLine, behind_held, ended_answer}
use Rattle.fluid_io.specs.Reader.{Reader}
use Rattle.fluid_io.specs.Streams.{Reading, Gives}
use Rattle.fluid_io.specs.Lines.{ahead, line_answer, first_answer, AnswersBytes, IsNext, GivesLine, IsPlain, PassesLine}
use Rattle.fluid_io.proofs.Told.{LineTells, line_tells, answer_tells}
use Rattle.fluid_io.proofs.Firsts.{line_fed, line_unfed, lines_none, long_line}

-- the bytes that were ahead, where they are told
told_bytes : (taken : List ℕ) (old new : Option (List ℕ)) → Gives taken old new → Tells old (λ known. known ≡ taken ++ unwrap_or new [])
told_bytes taken old None gives = subst (λ o. Tells o (λ known. known ≡ taken ++ [])) (sym gives) tt
told_bytes taken old (Some rest) gives = subst (λ o. Tells o (λ known. known ≡ taken ++ rest)) (sym gives) refl

-- nothing is left at the end
none_left : (new : Option (List ℕ)) → Tells new (λ bytes. bytes ≡ []) → unwrap_or new [] ≡ []
none_left None ended = refl
none_left (Some rest) ended = ended

-- an answer for some bytes is the next one
pub is_next : (r : Reader) (before now : Reading) (answer : Result Line LineFault) → AnswersBytes r (ahead r before) answer → IsNext r before now answer
is_next r before now (Ok line) a = a
is_next r before now (Err ReadFault) a = absurd (answer_tells r (lines a.bytes) (Err ReadFault) a.answered).1.tells
is_next r before now (Err (TooLong number)) a = a
is_next r before now (Err (NotUtf8 number)) a = a
is_next r before now (Err NoMemory) a = tt
is_next r before now (Err (TooMany number)) a = a

-- of a reader that hasn't failed
answers_first : (r : Reader) (told : Option (List ℕ)) (bytes : List ℕ) (before : List (List ℕ)) (answer : Result Line LineFault)
    → r.failed ≡ false → Tells told (λ known. known ≡ bytes) → lines bytes ≡ before → answer ≡ first_answer r.limit (r.count + 1) before
    → AnswersBytes r told answer
answers_first r told bytes before answer well are_told are is = record {
  bytes = bytes;
  are_told = are_told;
  answered = rw (well, are) is;
}

told_or_none : (told : Option (List ℕ)) → Tells told (λ known. known ≡ unwrap_or told [])
told_or_none None = tt
told_or_none (Some bytes) = refl

-- of a reader that has failed
pub answers_end : (r : Reader) (told : Option (List ℕ)) → r.failed ≡ true → AnswersBytes r told (Ok End)
answers_end r told failed = record {
  bytes = unwrap_or told [];
  are_told = told_or_none told;
  answered = rw failed refl;
}

-- the answer for the one line that is left, or the end
last_answer : (limit number : ℕ) (line : List ℕ) → ended_answer limit number line Input ≡ first_answer limit number (if length line == 0 then [] else line ∷ [])
last_answer limit number line = elim (length line == 0) as (λ none. (if none then Ok End else line_answer limit number line) ≡ first_answer limit number (if none then [] else line ∷ [])) [
  | true ↦ refl
  | false ↦ refl
]

-- the answer for a line that is too long
long_answer : (limit number : ℕ) (line : List ℕ) → limit < length line → Err (TooLong number) ≡ line_answer limit number line
long_answer limit number line long = rw (lt-ltb limit (length line) long) refl

pub ended_answers : (r : Reader) (old new : Option (List ℕ)) (line : List ℕ) (ending : Ending)
    → r.failed ≡ false → IsPlain line → EndsLine r.limit old new line ending
    → AnswersBytes r old (ended_answer r.limit (r.count + 1) line ending)
ended_answers r old new line LineFeed well plain ends =
    answers_first r old ((line ++ 10 ∷ []) ++ unwrap_or new []) (strip_carriage_return line ∷ lines (unwrap_or new [])) _
    well (told_bytes (line ++ 10 ∷ []) old new ends) (line_fed line (unwrap_or new []) plain) refl
ended_answers r old new line Input well plain ends =
    answers_first r old (line ++ unwrap_or new []) (if length line == 0 then [] else line ∷ []) _
    well (told_bytes line old new ends.0)
    (rw (none_left new ends.1, append-nil) (line_unfed line plain)) (last_answer r.limit (r.count + 1) line)
ended_answers r old new line Excess well plain ends =
    let long = long_line r.limit line (unwrap_or new []) plain ends.1 in
    answers_first r old (line ++ unwrap_or new []) (long.first ∷ long.more) _
    well (told_bytes line old new ends.0) long.are (long_answer r.limit (r.count + 1) long.first long.long)

-- where the first of the lines that were ahead is this one, its answer gives it, if any
gives_first : (limit number : ℕ) (r : Reader) (before : Reading) (new : Reader) (now : Reading) (line : List ℕ) (answer : Result Line LineFault)
    → PassesLine line (ahead r before) (ahead new now) → LineTells limit number line answer → GivesLine r before new now answer
gives_first limit number r before new now line (Ok (Text text)) first tells =
    subst (λ t. PassesLine t (ahead r before) (ahead new now)) (sym tells.same) first
gives_first limit number r before new now line (Ok End) first tells = absurd tells
gives_first limit number r before new now line (Err fault) first tells = tt

lines_fed : (line : List ℕ) (old new : Option (List ℕ)) → IsPlain line → Gives (line ++ 10 ∷ []) old new
    → option_map lines old ≡ option_map (λ more. strip_carriage_return line ∷ more) (option_map lines new)
lines_fed line old None plain gives = ap (option_map lines) gives
lines_fed line old (Some rest) plain gives = ap (option_map lines) gives ∙ ap Some (line_fed line rest plain)

lines_last : (line : List ℕ) (old new : Option (List ℕ)) → IsPlain line → Gives line old new → Tells new (λ bytes. bytes ≡ []) → (length line == 0) ≡ false
    → option_map lines old ≡ option_map (λ more. line ∷ more) (option_map lines new)
lines_last line old None plain gives ended some = ap (option_map lines) gives
lines_last line old (Some rest) plain gives ended some =
    ap (option_map lines) gives ∙ ap Some (rw (ended, append-nil) (line_unfed line plain ∙ rw some refl))

passes_fed : (line : List ℕ) (old new : Option (List ℕ)) → IsPlain line → Gives (line ++ 10 ∷ []) old new → PassesLine (strip_carriage_return line) old new
passes_fed line old new plain gives = record {
  first = lines_fed line old new plain gives;
  bytes = line ++ 10 ∷ [];
  gives = gives;
  are = ap lines (sym (append-nil (line ++ 10 ∷ []))) ∙ line_fed line [] plain ∙ ap (λ more. strip_carriage_return line ∷ more) lines_none;
  ended = inl (record { prefix = line; is = refl });
}

passes_last : (line : List ℕ) (old new : Option (List ℕ)) → IsPlain line → Gives line old new → Tells new (λ bytes. bytes ≡ []) → (length line == 0) ≡ false
    → PassesLine line old new
passes_last line old new plain gives ended some = record {
  first = lines_last line old new plain gives ended some;
  bytes = line;
  gives = gives;
  are = line_unfed line plain ∙ rw some refl;
  ended = inr ended;
}

pub ended_gives : (r : Reader) (before : Reading) (new : Reader) (now : Reading) (line : List ℕ) (ending : Ending)
    → IsPlain line → EndsLine r.limit (ahead r before) (ahead new now) line ending
    → GivesLine r before new now (ended_answer r.limit (r.count + 1) line ending)
ended_gives r before new now line LineFeed plain ends =
    gives_first r.limit (r.count + 1) r before new now (strip_carriage_return line) _ (passes_fed line (ahead r before) (ahead new now) plain ends)
    (line_tells r.limit (r.count + 1) (strip_carriage_return line))
ended_gives r before new now line Input plain ends =
    let P : Bool → Type 0 = λ none. GivesLine r before new now (if none then Ok End else line_answer r.limit (r.count + 1) line) in
    ⊎_elim
    (λ none. subst P (sym none) (λ well. ends.1))
    (λ some. subst P (sym some) (gives_first r.limit (r.count + 1) r before new now line _ (passes_last line (ahead r before) (ahead new now) plain ends.0 ends.1 some)
    (line_tells r.limit (r.count + 1) line)))
    (cases_Bool (length line == 0))
ended_gives r before new now line Excess plain ends = tt

-- the same at a reader `r` whose parts are those of `s`, over the bytes that were held
pub finished_answer : (s r : Reader) (before now : Reading) (held rest line : List ℕ) (ending : Ending) (answer : Result Line LineFault)
    → s ≡ r → held ≡ s.held → r.failed ≡ false → IsPlain line
    → EndsLine s.limit (behind_held held before) (behind_held rest now) line ending
    → answer ≡ ended_answer s.limit (s.count + 1) line ending → IsNext r before now answer
finished_answer s r before now held rest line ending answer same is_held well plain ends is =
    let P : Reader → Type 0 = λ q. q.failed ≡ false → IsNext q before now answer in
    let E : List ℕ → Type 0 = λ h. EndsLine s.limit (behind_held h before) (behind_held rest now) line ending in
    let A : Result Line LineFault → Type 0 = λ a. IsNext s before now a in
    subst P same
    (λ s_well. subst A (sym is) (is_next s before now _ (ended_answers s _ _ line ending s_well plain (subst E is_held ends))))
    well

pub finished_line : (s r : Reader) (before : Reading) (new : Reader) (now : Reading) (held line : List ℕ) (ending : Ending) (answer : Result Line LineFault)
    → s ≡ r → held ≡ s.held → IsPlain line
    → EndsLine s.limit (behind_held held before) (ahead new now) line ending
    → answer ≡ ended_answer s.limit (s.count + 1) line ending → GivesLine r before new now answer
finished_line s r before new now held line ending answer same is_held plain ends is =
    let P : Reader → Type 0 = λ q. GivesLine q before new now answer in
    let E : List ℕ → Type 0 = λ h. EndsLine s.limit (behind_held h before) (ahead new now) line ending in
    let A : Result Line LineFault → Type 0 = λ a. GivesLine s before new now a in
    subst P same (subst A (sym is) (ended_gives s before new now line ending plain (subst E is_held ends)))
