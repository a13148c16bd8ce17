-- What an answer for lines tells of them.
use Rattle.std.proofs.Common.{◌≡◌, ℕ, ◌+◌, ◌<◌, ◌≤◌, Bool, true, false, List, [], ◌∷◌, length, Result, Ok, Err, refl, sym, subst, nat_lt, if◌then◌else◌, ⊎_elim}
use Rattle.std.specs.Str.{is_utf8}
use Rattle.std.proofs.lemmas.Bool.{cases_Bool, ltb-true, ltb-false}
use Rattle.fluid_io.specs.declared.line.Line.{Line}
use Rattle.fluid_io.specs.declared.line.Line.TheVariants.{Text, End}
use Rattle.fluid_io.specs.declared.line.LineFault.{LineFault}
use Rattle.fluid_io.specs.declared.line.LineFault.TheVariants.{ReadFault, TooLong, NotUtf8, NoMemory, TooMany}
use Rattle.fluid_io.specs.declared.lines.TheConstants.{MOST_LINES}
use Rattle.fluid_io.specs.Lines.{line_answer, first_answer, next_answer}
use Rattle.fluid_io.specs.Reader.{Reader}

-- a line that is given: it is within the limit, a text, and not one line too many
pub record IsGiven (limit number : ℕ) (line text : List ℕ) : Type 0 where
  pub same : text ≡ line
  pub short : length line ≤ limit
  pub utf8 : is_utf8 line ≡ true
  pub few : number ≤ MOST_LINES

-- what the answer for one line tells of it
abbrev pub LineTells : (limit number : ℕ) → List ℕ → Result Line LineFault → Type 0
LineTells limit number line (Ok (Text text)) = IsGiven limit number line text
LineTells limit number line (Ok End) = ⊥
LineTells limit number line (Err ReadFault) = ⊥
LineTells limit number line (Err (TooLong n)) = (n ≡ number) × (limit < length line)
LineTells limit number line (Err (NotUtf8 n)) = (n ≡ number) × (length line ≤ limit) × (is_utf8 line ≡ false)
LineTells limit number line (Err NoMemory) = ⊥
LineTells limit number line (Err (TooMany n)) = (n ≡ number) × (length line ≤ limit) × (is_utf8 line ≡ true) × (MOST_LINES < number)

tells_many : (limit number : ℕ) (line : List ℕ) → nat_lt limit (length line) ≡ false → is_utf8 line ≡ true → nat_lt MOST_LINES number ≡ true
    → LineTells limit number line (line_answer limit number line)
tells_many limit number line short text many =
    rw (short, text, many) (refl, ltb-false limit (length line) short, text, ltb-true MOST_LINES number many)

tells_given : (limit number : ℕ) (line : List ℕ) → nat_lt limit (length line) ≡ false → is_utf8 line ≡ true → nat_lt MOST_LINES number ≡ false
    → LineTells limit number line (line_answer limit number line)
tells_given limit number line short text few =
    rw (short, text, few) (record { same = refl; short = ltb-false limit (length line) short; utf8 = text; few = ltb-false MOST_LINES number few })

tells_text : (limit number : ℕ) (line : List ℕ) → nat_lt limit (length line) ≡ false → is_utf8 line ≡ true
    → LineTells limit number line (line_answer limit number line)
tells_text limit number line short text =
    ⊎_elim (tells_many limit number line short text) (tells_given limit number line short text) (cases_Bool (nat_lt MOST_LINES number))

tells_none : (limit number : ℕ) (line : List ℕ) → nat_lt limit (length line) ≡ false → is_utf8 line ≡ false
    → LineTells limit number line (line_answer limit number line)
tells_none limit number line short none = rw (short, none) (refl, ltb-false limit (length line) short, none)

tells_short : (limit number : ℕ) (line : List ℕ) → nat_lt limit (length line) ≡ false
    → LineTells limit number line (line_answer limit number line)
tells_short limit number line short =
    ⊎_elim (tells_text limit number line short) (tells_none limit number line short) (cases_Bool (is_utf8 line))

tells_long : (limit number : ℕ) (line : List ℕ) → nat_lt limit (length line) ≡ true
    → LineTells limit number line (line_answer limit number line)
tells_long limit number line long = rw long (refl, ltb-true limit (length line) long)

pub line_tells : (limit number : ℕ) (line : List ℕ) → LineTells limit number line (line_answer limit number line)
line_tells limit number line =
    ⊎_elim (tells_long limit number line) (tells_short limit number line) (cases_Bool (nat_lt limit (length line)))

-- lines of which the first has this answer
pub record TellsFirst (limit number : ℕ) (before : List (List ℕ)) (answer : Result Line LineFault) : Type 0 where
  pub first : List ℕ
  pub more : List (List ℕ)
  pub are : before ≡ first ∷ more
  pub tells : LineTells limit number first answer

-- what the next answer of a reader tells of the lines before it
abbrev pub NextTells : Reader → List (List ℕ) → Result Line LineFault → Type 0
NextTells r before (Ok (Text text)) = (r.failed ≡ false) × TellsFirst r.limit (r.count + 1) before (Ok (Text text))
NextTells r before (Ok End) = r.failed ≡ false → before ≡ []
NextTells r before (Err fault) = (r.failed ≡ false) × TellsFirst r.limit (r.count + 1) before (Err fault)

first_tells : (r : Reader) (line : List ℕ) (more : List (List ℕ)) (answer : Result Line LineFault) → r.failed ≡ false → LineTells r.limit (r.count + 1) line answer
    → NextTells r (line ∷ more) answer
first_tells r line more (Ok (Text text)) well tells = (well, record { first = line; more = more; are = refl; tells = tells })
first_tells r line more (Ok End) well tells = absurd tells
first_tells r line more (Err fault) well tells = (well, record { first = line; more = more; are = refl; tells = tells })

well_tells : (r : Reader) (before : List (List ℕ)) → r.failed ≡ false → NextTells r before (first_answer r.limit (r.count + 1) before)
well_tells r [] well = λ h. refl
well_tells r (line ∷ more) well = first_tells r line more (line_answer r.limit (r.count + 1) line) well (line_tells r.limit (r.count + 1) line)

next_tells : (r : Reader) (before : List (List ℕ)) → NextTells r before (next_answer r before)
next_tells r before =
    let P : Bool → Type 0 = λ failed. NextTells r before (if failed then Ok End else first_answer r.limit (r.count + 1) before) in
    ⊎_elim
    (λ failed. subst P (sym failed) (λ well. cc))
    (λ well. subst P (sym well) (well_tells r before well))
    (cases_Bool r.failed)

-- the same of an answer that is the next one
pub answer_tells : (r : Reader) (before : List (List ℕ)) (answer : Result Line LineFault) → answer ≡ next_answer r before → NextTells r before answer
answer_tells r before answer is =
    let P : Result Line LineFault → Type 0 = λ a. NextTells r before a in
    subst P (sym is) (next_tells r before)
