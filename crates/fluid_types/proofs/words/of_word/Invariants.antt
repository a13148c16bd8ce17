use Rattle.std.proofs.Common.{◌≡◌, find, bytes_eq, drop}
use Rattle.fluid_types.proofs.words.of_word.Given as goal

-- none of the values so far has the word
abbrev pub invariant-loop-value : goal.invariant-loop-value
invariant-loop-value g l =
    find (λ value. bytes_eq l.word (g.T.Word.word_of value)) (drop l.value-index l.all) ≡ find (λ value. bytes_eq l.word (g.T.Word.word_of value)) l.all
