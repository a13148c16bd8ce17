-- What one edit makes of the channels that are kept.
use Rattle.std.proofs.Common.{◌≡◌, ℕ, ◌-◌, ◌<◌, ◌≤◌, Bool, true, false, cond, List, Option, Some, None, is_some, option_map, bytes_eq, refl, sym, ap, ap₂, subst, ◌∙◌, arith, lt-ltb, Result, Ok, Err}
use Rattle.std.specs.Result.{OnOk, OnErr}
use Rattle.std.proofs.lemmas.Bool.{false≢true}
use Rattle.fluid_edits.specs.declared.edit.ChannelKind.{ChannelKind}
use Rattle.std.specs.FinMap.{empty, get, insert, get-empty}
use Rattle.std.proofs.lemmas.Option.{same_Some, none-some}
use Rattle.std.proofs.lemmas.Slice.Eq.{bytes_eq-Decides}
use Rattle.fluid_table.specs.Table.{byte_order}
use Rattle.fluid_types.specs.Names.{IsName}
use Rattle.fluid_table.proofs.Places.{get_inserted, get_own, insert_again}
use Rattle.fluid_edits.specs.Replay.{Channel, fresh, told_attach, put_if_any}
use Rattle.fluid_runtime.specs.App.{marked_if}
use Rattle.fluid_runtime.specs.Slots.{Slots, channel_of, channel_of_object, channels_of, changed_of, is_changed, settled_slot, settled_object, IsQuiet, IsSoundSlot, IsSound, IsToldSlot, IsTold, IsKnown, AreNamed}
use Rattle.fluid_runtime.specs.declared.slots.Object.{Object}
use Rattle.fluid_runtime.specs.declared.slots.Object.TheVariants.{Map, Counter}
use Rattle.fluid_runtime.specs.declared.slots.Slot.{Slot}
use Rattle.fluid_runtime.proofs.Each.{get_each, get_found, get_absent, each_inserted, insert_same}

pub quiet_more : (fewer more : ℕ) → fewer ≤ more → (object : Object) → IsQuiet fewer object → IsQuiet more object
quiet_more fewer more le (Map shared) quiet = quiet
quiet_more fewer more le (Counter shared) quiet = (quiet.0, omega (arith, le, quiet.1))

-- ---- one slot taken out and put back

pub is_told : (number : ℕ) (at : List ℕ) (before behind : Slots) (slot told : Slot) (said : Option Channel) → IsName at → get before at ≡ Some slot
    → behind ≡ insert before at told → IsToldSlot number said slot told → IsQuiet number told.object → IsTold number at before behind said
is_told number at before behind slot told None named found put same quiet = put ∙ ap (insert before at) same ∙ insert_same before at slot found
is_told number at before behind slot told (Some channel) named found put holds quiet = record { slot = told; named = named; put = put; holds = holds.0; counted = holds.1; quiet = quiet }

-- a channel that is taken out of its place and put back as another
pub exchanged : (before middle behind : Slots) (at key key_again : List ℕ) (vacant slot told : Slot) → key ≡ at → key_again ≡ at → get before key ≡ Some slot
    → ((former : Slot) → get before key ≡ Some former → middle ≡ insert before key vacant)
    → ((former : Slot) → get middle key_again ≡ Some former → behind ≡ insert middle key_again told) → (get before at ≡ Some slot) × (behind ≡ insert before at told)
exchanged before middle behind at key key_again vacant slot told is is_again found first second =
    let one : middle ≡ insert before at vacant = first slot found ∙ ap (λ k. insert before k vacant) is in
    let there : get middle key_again ≡ Some vacant = ap₂ get one is_again ∙ get_own before at vacant in
    (ap (get before) (sym is) ∙ found, second vacant there ∙ ap₂ (λ m k. insert m k told) one is_again ∙ insert_again before at vacant told)

pub found_told : (number : ℕ) (at : List ℕ) (before behind : Slots) (slot told : Slot) (said : Option Channel → Option Channel) → IsName at → get before at ≡ Some slot
    → behind ≡ insert before at told → IsToldSlot number (said (Some (channel_of slot))) slot told → IsQuiet number told.object
    → IsTold number at before behind (said (get (channels_of before) at))
found_told number at before behind slot told said named found put same quiet =
    subst (λ c. IsTold number at before behind (said c)) (sym (get_found channel_of before at slot found))
    (is_told number at before behind slot told (said (Some (channel_of slot))) named found put same quiet)

pub absent_told : (number : ℕ) (at : List ℕ) (before behind : Slots) (said : Option Channel → Option Channel) → said None ≡ None → get before at ≡ None → behind ≡ before
    → IsTold number at before behind (said (get (channels_of before) at))
absent_told number at before behind said nothing none same =
    subst (λ c. IsTold number at before behind (said c)) (sym (get_absent channel_of before at none)) (subst (IsTold number at before behind) (sym nothing) same)

-- ---- an attach

pub some_mapped : {A B : Type 0} (f : A → B) (r : Option A) → is_some (option_map f r) ≡ is_some r
some_mapped f None = refl
some_mapped f (Some x) = refl

pub absent_if : {A B : Type 0} (f : A → B) (r : Option A) → r ≡ None → option_map f r ≡ None
absent_if f r is = ap (option_map f) is

none_if : {A : Type 0} (r : Option A) → is_some r ≡ false → r ≡ None
none_if None is = refl
none_if (Some x) is = absurd (false≢true (sym is))

nothing_attached : (kind : ChannelKind) (found : Option Slot) → is_some found ≡ true → told_attach kind (option_map channel_of found) ≡ None
nothing_attached kind None is = absurd (false≢true is)
nothing_attached kind (Some slot) is = refl

pub attached_again : (number : ℕ) (at : List ℕ) (slots : Slots) (kind : ChannelKind) → is_some (get slots at) ≡ true → IsTold number at slots slots (told_attach kind (get (channels_of slots) at))
attached_again number at slots kind is =
    subst (IsTold number at slots slots) (sym (ap (told_attach kind) (get_each channel_of slots at) ∙ nothing_attached kind (get slots at) is)) refl

pub attached_first : (number : ℕ) (at : List ℕ) (before behind : Slots) (kind : ChannelKind) (object : Object) → IsName at → is_some (get before at) ≡ false
    → behind ≡ insert before at (record { object = object; last = number }) → channel_of_object object ≡ fresh kind → IsQuiet 0 object
    → IsTold number at before behind (told_attach kind (get (channels_of before) at))
attached_first number at before behind kind object named none put holds quiet =
    subst (λ c. IsTold number at before behind (told_attach kind c)) (sym (get_absent channel_of before at (none_if (get before at) none)))
    (record { slot = record { object = object; last = number }; named = named; put = put; holds = holds; counted = refl; quiet = quiet_more 0 number (omega arith) object quiet })

-- ---- what holds of an answer

pub on_ok : {A E P Q : Type 0} (r : Result A E) → (P → Q) → OnOk r P → OnOk r Q
on_ok (Ok a) then h = then h
on_ok (Err e) then h = tt

pub on_ok_so : {A E P : Type 0} (r : Result A E) → P → OnOk r P
on_ok_so (Ok a) h = h
on_ok_so (Err e) h = tt

pub on_err : {A E P Q : Type 0} (r : Result A E) → (P → Q) → OnErr r P → OnErr r Q
on_err (Ok a) then h = tt
on_err (Err e) then h = then h

-- ---- all channels behind it

pub told_channels : (number : ℕ) (at : List ℕ) (before behind : Slots) (said : Option Channel) → IsTold number at before behind said → channels_of behind ≡ put_if_any (channels_of before) at said
told_channels number at before behind None same = ap channels_of same
told_channels number at before behind (Some channel) is =
    ap channels_of is.put ∙ each_inserted channel_of before at is.slot ∙ ap (insert (channels_of before) at) is.holds

sound_more : (fewer more : ℕ) → fewer ≤ more → (slot : Slot) → IsSoundSlot fewer slot → IsSoundSlot more slot
sound_more fewer more le slot is = record { quiet = quiet_more fewer more le slot.object is.quiet; known = omega (arith, le, is.known) }

pub all_sound_more : (fewer more : ℕ) → fewer ≤ more → (slots : Slots) → IsSound fewer slots → IsSound more slots
all_sound_more fewer more le slots sound at slot found = sound_more fewer more le slot (sound at slot found)

pub none_named : AreNamed empty
none_named at slot found = absurd (none-some _ (sym (get-empty byte_order at) ∙ found))

pub none_sound : (taken : ℕ) → IsSound taken empty
none_sound taken at slot found = absurd (none-some _ (sym (get-empty byte_order at) ∙ found))

put_sound : (fewer more : ℕ) → fewer ≤ more → (slots : Slots) (own : List ℕ) (put : Slot) → IsSound fewer slots → IsSoundSlot more put
    → (at : List ℕ) (slot : Slot) (b : Bool) → bytes_eq at own ≡ b → cond b (Some put) (get slots at) ≡ Some slot → IsSoundSlot more slot
put_sound fewer more le slots own put sound is at slot true own_is found = subst (IsSoundSlot more) (same_Some _ _ found) is
put_sound fewer more le slots own put sound is at slot false own_is found = sound_more fewer more le slot (sound at slot found)

pub told_sound : (number : ℕ) (at : List ℕ) (before behind : Slots) (said : Option Channel) → IsSound (number - 1) before → IsTold number at before behind said → IsSound number behind
told_sound number at before behind None sound same = subst (IsSound number) (sym same) (all_sound_more (number - 1) number (omega arith) before sound)
told_sound number at before behind (Some channel) sound is =
    let own : IsSoundSlot number is.slot = record { quiet = is.quiet; known = omega (arith, is.counted) } in
    λ other slot found. put_sound (number - 1) number (omega arith) before at is.slot sound own other slot (bytes_eq other at) refl
    (sym (get_inserted before at is.slot other) ∙ ap (λ m. get m other) (sym is.put) ∙ found)

put_named : (slots : Slots) (own : List ℕ) (put : Slot) → AreNamed slots → IsName own
    → (at : List ℕ) (slot : Slot) (b : Bool) → bytes_eq at own ≡ b → cond b (Some put) (get slots at) ≡ Some slot → IsName at
put_named slots own put named is at slot true own_is found = subst IsName (sym ((bytes_eq-Decides at own).0 own_is)) is
put_named slots own put named is at slot false own_is found = named at slot found

pub told_named : (number : ℕ) (at : List ℕ) (before behind : Slots) (said : Option Channel) → AreNamed before → IsTold number at before behind said → AreNamed behind
told_named number at before behind None named same = subst AreNamed (sym same) named
told_named number at before behind (Some channel) named is =
    λ other slot found. put_named before at is.slot named is.named other slot (bytes_eq other at) refl
    (sym (get_inserted before at is.slot other) ∙ ap (λ m. get m other) (sym is.put) ∙ found)

changed_now : (number : ℕ) (mark : Option ℕ) (slot : Slot) → IsKnown (number - 1) mark → 0 < number → slot.last ≡ number → is_changed mark slot ≡ true
changed_now number None slot known some is = refl
changed_now number (Some mark) slot known some is = lt-ltb mark slot.last (omega (arith, known, some, is))

pub told_changed : (number : ℕ) (at : List ℕ) (before behind : Slots) (said : Option Channel) (mark : Option ℕ) → IsKnown (number - 1) mark → 0 < number
    → IsTold number at before behind said → changed_of mark behind ≡ marked_if (changed_of mark before) at (is_some said)
told_changed number at before behind None mark known some same = ap (changed_of mark) same
told_changed number at before behind (Some channel) mark known some is =
    ap (changed_of mark) is.put
    ∙ each_inserted (is_changed mark) before at is.slot ∙ ap (insert (changed_of mark before) at) (changed_now number mark is.slot known some is.counted)

-- ---- copies

pub settled_alike : (taken : ℕ) (slot : Slot) → IsSoundSlot taken slot → settled_slot slot ≡ slot
settled_alike taken slot is = ap (λ o. record slot { object = o }) (same_object slot.object is.quiet)
  where
    same_object : (object : Object) → IsQuiet taken object → settled_object object ≡ object
    same_object (Map shared) quiet = ap (λ pending. Map (record shared { pending = pending })) (sym quiet)
    same_object (Counter shared) quiet = ap (λ pending. Counter (record shared { pending = pending })) (sym quiet.0)
