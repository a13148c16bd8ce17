-- One line more at the end.
use Rattle.std.proofs.Common.{◌≡◌, ℕ, List, [], ◌∷◌, ◌++◌, refl, sym, ap, ◌∙◌, append_assoc, append-nil}
use Rattle.fluid_pipe.specs.declared.refusal.Refusal.TheVariants.{TooLong, NotUtf8, TooManyLines, Text}
use Rattle.fluid_steps.specs.Refusals.{why_text}
use Rattle.fluid_transcript.specs.Transcript.{taken, behind, lines_of, written}
use Rattle.fluid_transcript.specs.Laws.{WorldGrows, LinesGrow, TranscriptGrows, WordsAreOne}

pub world_grows : WorldGrows
world_grows limits w [] line = refl
world_grows limits w (first ∷ lines) line = world_grows limits (taken limits w first).world lines line

pub lines_grow : LinesGrow
lines_grow limits w [] line = append-nil (taken limits w line).lines
lines_grow limits w (first ∷ lines) line =
    ap (λ more. (taken limits w first).lines ++ more) (lines_grow limits (taken limits w first).world lines line)
    ∙ sym (append_assoc (taken limits w first).lines (lines_of limits (taken limits w first).world lines) (taken limits (behind limits (taken limits w first).world lines) line).lines)

written_both : (first second : List (List ℕ)) → written (first ++ second) ≡ written first ++ written second
written_both [] second = refl
written_both (line ∷ first) second =
    ap (λ more. (line ++ 10 ∷ []) ++ more) (written_both first second) ∙ sym (append_assoc (line ++ 10 ∷ []) (written first) (written second))

pub transcript_grows : TranscriptGrows
transcript_grows limits w lines line =
    ap written (lines_grow limits w lines line) ∙ written_both (lines_of limits w lines) (taken limits (behind limits w lines) line).lines

-- the words of a refusal are those of why
pub words_are_one : WordsAreOne
unfolding why_text
words_are_one limits w TooLong = refl
words_are_one limits w NotUtf8 = refl
words_are_one limits w TooManyLines = refl
words_are_one limits w (Text why) = refl
