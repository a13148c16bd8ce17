-- What op events bring.
use Rattle.std.proofs.Common.{◌≡◌, ◌≤◌, ◌∙◌, ℕ, zero, suc, List, [], ◌∷◌, ◌++◌, length, map, take, drop, All, refl, ap, sym, arith, length-drop}
use Rattle.std.proofs.lemmas.List.{take-append-drop, length-take, nil_from_length}
use Rattle.std.proofs.lemmas.List.Elements.{All-nil, All-cons}
use Rattle.fluid_types.specs.declared.messages.Message.{Message}
use Rattle.fluid_codec.specs.declared.replies.Reply.TheVariants.{Ops}
use Rattle.fluid_voice.specs.Feed.{most_in_event, batched, batches, fed, IsEventOf, EventsBringAll, EventsAreWhole}

all_of : (name : List ℕ) (more : ℕ) (ms : List Message) → length ms ≤ more → fed (map (Ops name) (batched more ms)) ≡ ms
all_of name zero ms few = sym (nil_from_length ms (omega (arith, few)))
all_of name (suc more) [] few = refl
all_of name (suc more) (m ∷ ms) few =
    let rest : length (drop most_in_event (m ∷ ms)) ≤ more = omega (arith, few, length-drop 63 ms) in
    ap (λ behind. take most_in_event (m ∷ ms) ++ behind) (all_of name more (drop most_in_event (m ∷ ms)) rest)
    ∙ take-append-drop most_in_event (m ∷ ms)

whole_of : (name : List ℕ) (more : ℕ) (ms : List Message) → All (IsEventOf name) (map (Ops name) (batched more ms))
whole_of name zero ms = All-nil (IsEventOf name)
whole_of name (suc more) [] = All-nil (IsEventOf name)
whole_of name (suc more) (m ∷ ms) = All-cons (IsEventOf name) _ _ (refl, (omega arith, omega (arith, length-take 63 ms))) (whole_of name more (drop most_in_event (m ∷ ms)))

pub events_bring_all : EventsBringAll
unfolding batches
events_bring_all name messages = all_of name (length messages) messages (omega arith)

pub events_are_whole : EventsAreWhole
unfolding batches
events_are_whole name messages = whole_of name (length messages) messages
