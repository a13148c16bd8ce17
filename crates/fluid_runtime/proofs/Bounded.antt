-- What is written of channels within the bounds is read back: that each is, is told by the calls that write them.
use Rattle.std.proofs.Common.{◌≡◌, ℕ, ℤ, zero, suc, ◌+◌, ◌<◌, ◌≤◌, List, [], ◌∷◌, ◌++◌, length, get_or, take, Option, Some, None, option_map, Result, Ok, Err, IfOk, refl, sym, ap, subst, ◌∙◌, arith}
use Rattle.std.specs.List.{All, AllByRecursion}
use Rattle.std.specs.Result.{OnOk}
use Rattle.std.specs.FinMap.{entries, get, values}
use Rattle.std.proofs.lemmas.List.{take_all}
use Rattle.fluid_json.specs.Tree.{depth}
use Rattle.fluid_types.specs.Names.{IsName}
use Rattle.fluid_tree.specs.Summary.{Summary}
use Rattle.fluid_map.specs.Replay as map
use Rattle.fluid_map.specs.Content as map_content
use Rattle.fluid_counter.specs.Content as counter_content
use Rattle.fluid_edits.specs.Replay.{Channel, a_map, a_counter, Channels, no_channels}
use Rattle.fluid_runtime.specs.AppTree.{app_tree, answer, AreBounded, IsReadAsItself}
use Rattle.fluid_runtime.specs.Slots.{Slots, channel_of, channels_of, AreNamed}
use Rattle.fluid_runtime.specs.declared.slots.Slot.{Slot}
use Rattle.fluid_runtime.proofs.Each.{mapped, entries_each, get_each}
use Rattle.fluid_runtime.proofs.Laid.{pushed_take}
use Rattle.fluid_runtime.proofs.Nodes.{found_there}
use Rattle.fluid_runtime.proofs.ReadBack.{map_said, counter_said, read_each}

-- ---- a content, as the calls that write it tell

pub map_read : {E : Type 0} (written : Result (List ℕ) E) (kept : map.Values) → IfOk written (λ blob. blob ≡ map_content.content kept)
    → IfOk written (λ blob. All (λ value. depth value ≤ 99) (values kept) → map_content.answer blob ≡ Ok (record { acknowledged = kept; pending = [] }))
    → OnOk written (IsReadAsItself (a_map kept))
map_read (Ok blob) kept is back = λ bounded.
    map_said (map_content.is_content (map_content.content kept)) (map_content.values_in (map_content.content kept)) kept map_content.bad_content
    (sym (ap map_content.answer is) ∙ back bounded)
map_read (Err e) kept is back = tt

pub counter_read : {E : Type 0} (written : Result (List ℕ) E) (total : ℤ) → IfOk written (λ blob. blob ≡ counter_content.content total)
    → IfOk written (λ blob. counter_content.IsStorable total → counter_content.answer blob ≡ Ok (record { acknowledged = total; pending = [] }))
    → OnOk written (IsReadAsItself (a_counter total))
counter_read (Ok blob) total is back = λ bounded.
    counter_said (counter_content.is_content (counter_content.content total)) (counter_content.total_in (counter_content.content total)) total
    counter_content.bad_content (sym (ap counter_content.answer is) ∙ back bounded)
counter_read (Err e) total is back = tt

-- ---- each of a list

all_behind : {A : Type 0} (P : A → Type 0) (xs ys : List A) → AllByRecursion P xs → AllByRecursion P ys → AllByRecursion P (xs ++ ys)
all_behind P [] ys one other = other
all_behind P (x ∷ xs) ys one other = (one.0, all_behind P xs ys one.1 other)

pub each_pushed : {A : Type 0} (P : A → Type 0) (xs : List A) (n : ℕ) (x : A) → n < length xs → x ≡ get_or xs n x → AllByRecursion P (take n xs) → P x → AllByRecursion P (take (n + 1) xs)
each_pushed P xs n x within is so_far own = subst (AllByRecursion P) (pushed_take xs n x within is) (all_behind P (take n xs) (x ∷ []) so_far (own, tt))

pub all_at_end : {A : Type 0} (P : A → Type 0) (xs : List A) (n : ℕ) → length xs ≤ n → AllByRecursion P (take n xs) → AllByRecursion P xs
all_at_end P xs n all so_far = subst (AllByRecursion P) (take_all n xs all) so_far

at_place : {A : Type 0} (P : A → Type 0) (xs : List A) → AllByRecursion P xs → (n : ℕ) (d : A) → n < length xs → P (get_or xs n d)
at_place P [] all n d within = absurd (omega (arith, within))
at_place P (x ∷ xs) all zero d within = all.0
at_place P (x ∷ xs) all (suc n) d within = at_place P xs all.1 n d (omega (arith, within))

-- ---- all channels

channels_read : (es : List (List ℕ × Slot)) → AllByRecursion (λ e. IsReadAsItself (channel_of e.1)) es → AllByRecursion (λ e. IsReadAsItself e.1) (mapped channel_of es)
channels_read [] all = tt
channels_read (e ∷ es) all = (all.0, channels_read es all.1)

named_if : (slots : Slots) → AreNamed slots → (at : List ℕ) (found : Option Slot) → get slots at ≡ found → (channel : Channel) → option_map channel_of found ≡ Some channel → IsName at
named_if slots named at None is channel found = cc
named_if slots named at (Some slot) is channel found = named at slot is

channel_named : (slots : Slots) → AreNamed slots → (at : List ℕ) (channel : Channel) → get (channels_of slots) at ≡ Some channel → IsName at
channel_named slots named at channel found = named_if slots named at (get slots at) refl channel (sym (get_each channel_of slots at) ∙ found)

pub slots_read_back : (slots : Slots) (es : List (List ℕ × Slot)) → es ≡ entries slots → AreNamed slots → AreBounded (channels_of slots)
    → AllByRecursion (λ e. IsReadAsItself (channel_of e.1)) es → answer (app_tree (channels_of slots)) ≡ Ok (channels_of slots)
slots_read_back slots es all named bounded read =
    let each : AllByRecursion (λ e. IsReadAsItself e.1) (entries (channels_of slots)) =
    subst (AllByRecursion (λ e. IsReadAsItself e.1)) (sym (entries_each channel_of slots)) (channels_read (entries slots) (subst (AllByRecursion (λ e. IsReadAsItself (channel_of e.1))) all read)) in
    read_each (channels_of slots)
    (λ n d within.
    let e = get_or (entries (channels_of slots)) n d in
    let found = found_there (channels_of slots) n d within in
    (channel_named slots named e.0 e.1 found, at_place (λ e. IsReadAsItself e.1) (entries (channels_of slots)) each n d within (bounded e.0 e.1 found)))

-- what needs names, where there are names
pub with_names : {E P : Type 0} (Q : Summary → Type 0) (r : Result Summary E) → P → IfOk r (λ node. P → Q node) → IfOk r Q
with_names Q (Ok node) names h = h names
with_names Q (Err e) names h = tt
