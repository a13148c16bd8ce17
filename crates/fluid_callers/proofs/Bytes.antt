-- Lines with their ends, one behind another.
use Rattle.std.proofs.Common.{◌≡◌, ℕ, ◌+◌, ◌<◌, List, [], ◌∷◌, ◌++◌, length, map, take, get_or, refl, sym, ap, ◌∙◌, append_assoc, append-nil}
use Rattle.std.proofs.lemmas.List.{map-append, take_more}
use Rattle.fluid_codec.specs.declared.replies.Reply.{Reply}
use Rattle.fluid_transcript.specs.Lines.{reply_line}
use Rattle.fluid_transcript.specs.Transcript.{written}

pub written_both : (first second : List (List ℕ)) → written (first ++ second) ≡ written first ++ written second
written_both [] second = refl
written_both (line ∷ first) second =
    ap (λ more. (line ++ 10 ∷ []) ++ more) (written_both first second) ∙ sym (append_assoc (line ++ 10 ∷ []) (written first) (written second))

-- a line and its end were put behind others
pub pushed : (old line mid new : List ℕ) → mid ≡ old ++ line → new ≡ mid ++ 10 ∷ [] → new ≡ old ++ written (line ∷ [])
pushed old line mid new first second =
    second ∙ ap (λ m. m ++ 10 ∷ []) first ∙ append_assoc old line (10 ∷ []) ∙ ap (λ more. old ++ more) (sym (append-nil (line ++ 10 ∷ [])))

-- one more behind so many
pub one_more : (old mid new : List ℕ) (lines more : List (List ℕ)) → mid ≡ old ++ written lines → new ≡ mid ++ written more → new ≡ old ++ written (lines ++ more)
one_more old mid new lines more first second =
    second ∙ ap (λ m. m ++ written more) first ∙ append_assoc old (written lines) (written more) ∙ ap (λ w. old ++ w) (sym (written_both lines more))

-- no lines behind others
pub nothing_more : (old : List ℕ) → old ≡ old ++ written []
nothing_more old = sym (append-nil old)

-- the line of one reply more
pub reply_more : (c : List ℕ) (replies : List Reply) (i : ℕ) (reply : Reply) (old mid new : List ℕ) → i < length replies → reply ≡ get_or replies i reply
    → mid ≡ old ++ written (map (reply_line c) (take i replies)) → new ≡ mid ++ written (reply_line c reply ∷ []) → new ≡ old ++ written (map (reply_line c) (take (i + 1) replies))
reply_more c replies i reply old mid new below is first second =
    let more : take i replies ++ reply ∷ [] ≡ take (i + 1) replies = sym (take_more replies i reply below ∙ ap (λ r. take i replies ++ r ∷ []) (sym is)) in
    one_more old mid new (map (reply_line c) (take i replies)) (reply_line c reply ∷ []) first second
    ∙ ap (λ lines. old ++ written lines) (sym (map-append (reply_line c) (take i replies) (reply ∷ [])) ∙ ap (map (reply_line c)) more)
