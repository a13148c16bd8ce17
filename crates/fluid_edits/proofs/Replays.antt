-- What a replay leaves at each address.
use Rattle.std.proofs.Common.{◌≡◌, ℕ, ℤ, ◌+ℤ◌, Bool, true, false, cond, List, [], ◌∷◌, Option, Some, None, option_map, if◌then◌else◌, bytes_eq, refl, sym, ap, ◌∙◌, arith}
use Rattle.std.specs.List.{filter_map}
use Rattle.std.specs.FinMap.{get}
use Rattle.std.proofs.lemmas.Int.{ints}
use Rattle.std.proofs.lemmas.List.Elements.{filter_map-append}
use Rattle.std.proofs.lemmas.List.Sums.{fold-append}
use Rattle.std.proofs.lemmas.Slice.Eq.{bytes_eq-Decides}
use Rattle.fluid_table.proofs.Places.{get_inserted}
use Rattle.fluid_counter.specs.Counter as counter
use Rattle.fluid_edits.specs.declared.edit.Edit.{Edit}
use Rattle.fluid_edits.specs.declared.edit.Edit.TheVariants.{Attach, Set, Delete, Clear, Increment}
use Rattle.fluid_edits.specs.Forms.{address_of, is_in_range, edit_of}
use Rattle.fluid_edits.specs.Replay.{Channel, a_map, a_counter, Channels, fresh, to_counter, channel_behind, told, put_if_any, after, replay_edits}
use Rattle.fluid_edits.specs.Laws.{IsFirstAttach, IsReplayedOn}

-- what stands there now, or else what stood before
abbrev pub or_before : Option Channel → Option Channel → Option Channel
or_before None before = before
or_before (Some channel) before = Some channel

-- the channel at an address behind an edit of that address, or of another
abbrev pub step : Bool → Edit → Option Channel → Option Channel
step own edit before = cond own (or_before (told edit before) before) before

put_step : (b : Bool) (one : Option Channel) (channel : Channel) → cond b (Some channel) one ≡ cond b (or_before (Some channel) one) one
put_step true one channel = refl
put_step false one channel = refl

none_step : (b : Bool) (one : Option Channel) → one ≡ cond b (or_before None one) one
none_step true one = refl
none_step false one = refl

-- what an edit leaves at each address
get_put : (channels : Channels) (own at : List ℕ) (said : Option Channel) → get (put_if_any channels own said) at ≡ cond (bytes_eq at own) (or_before said (get channels at)) (get channels at)
get_put channels own at None = none_step (bytes_eq at own) (get channels at)
get_put channels own at (Some channel) = get_inserted channels own channel at ∙ put_step (bytes_eq at own) (get channels at) channel

same_place : (channels : Channels) (edit : Edit) (at : List ℕ) (b : Bool) → bytes_eq at (address_of edit) ≡ b
    → cond b (or_before (told edit (get channels (address_of edit))) (get channels at)) (get channels at) ≡ step b edit (get channels at)
same_place channels edit at true is = ap (λ own. or_before (told edit (get channels own)) (get channels at)) (sym ((bytes_eq-Decides at (address_of edit)).0 is))
same_place channels edit at false is = refl

pub get_after : (channels : Channels) (edit : Edit) (at : List ℕ) → get (after channels edit) at ≡ step (bytes_eq at (address_of edit)) edit (get channels at)
get_after channels edit at =
    get_put channels (address_of edit) at (told edit (get channels (address_of edit)))
    ∙ same_place channels edit at (bytes_eq at (address_of edit)) refl

-- ---- an edit that stands first

counted : (total amount : ℤ) (amounts : List ℤ) → counter.replay (total +ℤ amount) amounts ≡ counter.replay total (amount ∷ amounts)
counted total amount amounts = omega (arith, ints)

-- an increment of a counter, by whether its amount is in range
counted_first : (at address : List ℕ) (total amount : ℤ) (edits : List Edit) (b : Bool) → bytes_eq at address ≡ true → is_in_range amount ≡ b
    → channel_behind at (step true (Increment address amount) (Some (a_counter total))) edits ≡ channel_behind at (Some (a_counter total)) (Increment address amount ∷ edits)
counted_first at address total amount edits true is within = rw (is, within) (ap (λ n. Some (a_counter n)) (counted total amount (filter_map (to_counter at) edits)))
counted_first at address total amount edits false is within = rw (is, within) refl

first : (at : List ℕ) (edit : Edit) (edits : List Edit) (before : Option Channel) (b : Bool) → bytes_eq at (address_of edit) ≡ b
    → channel_behind at (step b edit before) edits ≡ channel_behind at before (edit ∷ edits)
first at (Attach address kind) edits None true is = ap (λ b. channel_behind at (option_map fresh (if b then Some kind else None)) edits) (sym is)
first at (Attach address kind) edits None false is = ap (λ b. channel_behind at (option_map fresh (if b then Some kind else None)) edits) (sym is)
first at (Attach address kind) edits (Some (a_map values)) true is = refl
first at (Attach address kind) edits (Some (a_map values)) false is = refl
first at (Attach address kind) edits (Some (a_counter total)) true is = refl
first at (Attach address kind) edits (Some (a_counter total)) false is = refl
first at (Set address key value) edits None true is = refl
first at (Set address key value) edits None false is = refl
first at (Set address key value) edits (Some (a_map values)) true is = rw is refl
first at (Set address key value) edits (Some (a_map values)) false is = rw is refl
first at (Set address key value) edits (Some (a_counter total)) true is = refl
first at (Set address key value) edits (Some (a_counter total)) false is = refl
first at (Delete address key) edits None true is = refl
first at (Delete address key) edits None false is = refl
first at (Delete address key) edits (Some (a_map values)) true is = rw is refl
first at (Delete address key) edits (Some (a_map values)) false is = rw is refl
first at (Delete address key) edits (Some (a_counter total)) true is = refl
first at (Delete address key) edits (Some (a_counter total)) false is = refl
first at (Clear address) edits None true is = refl
first at (Clear address) edits None false is = refl
first at (Clear address) edits (Some (a_map values)) true is = rw is refl
first at (Clear address) edits (Some (a_map values)) false is = rw is refl
first at (Clear address) edits (Some (a_counter total)) true is = refl
first at (Clear address) edits (Some (a_counter total)) false is = refl
first at (Increment address amount) edits None true is = refl
first at (Increment address amount) edits None false is = refl
first at (Increment address amount) edits (Some (a_map values)) true is = refl
first at (Increment address amount) edits (Some (a_map values)) false is = refl
first at (Increment address amount) edits (Some (a_counter total)) true is = counted_first at address total amount edits (is_in_range amount) is refl
first at (Increment address amount) edits (Some (a_counter total)) false is = rw is refl

nothing_said : (at : List ℕ) (before : Option Channel) → before ≡ channel_behind at before []
nothing_said at None = refl
nothing_said at (Some (a_map values)) = refl
nothing_said at (Some (a_counter total)) = let same : total ≡ counter.replay total [] = omega (arith, ints) in ap (λ n. Some (a_counter n)) same

pub first_attach_law : IsFirstAttach
first_attach_law channels [] at = nothing_said at (get channels at)
first_attach_law channels (edit ∷ edits) at =
    first_attach_law (after channels edit) edits at
    ∙ ap (λ c. channel_behind at c edits) (get_after channels edit at)
    ∙ first at edit edits (get channels at) (bytes_eq at (address_of edit)) refl

pub replayed_on_law : IsReplayedOn
replayed_on_law channels earlier later =
    ap (replay_edits channels) (filter_map-append edit_of earlier later) ∙ fold-append after channels (filter_map edit_of earlier) (filter_map edit_of later)
