-- The states as tuples of their parts.
use Rattle.std.specs.Prelude.{◌≡◌, ℕ, ℤ, List, Bool, true, false, Option, Some, None, ◌⊎◌, refl}
use Rattle.std.proofs.Common.{inl, inr}
use Rattle.std.specs.Coded.{Coded, code_by, coded×, coded⊎, coded_ℕ, coded_ℤ, coded_bool, coded_list, coded_option}
use Rattle.fluid_json.specs.Tree.{Tree}
use Rattle.fluid_json.specs.Code.{tree_code}
use Rattle.fluid_table.specs.Table as table
use Rattle.fluid_edits.specs.declared.edit.ChannelKind.TheVariants.{Map, Counter}
use Rattle.fluid_edits.specs.declared.edit.Edit.{Edit}
use Rattle.fluid_edits.specs.declared.edit.Edit.TheVariants.{Attach, Set, Delete, Clear, Increment}
use Rattle.fluid_edits.specs.Codes.{channels_code}
use Rattle.fluid_edits.specs.Replay.{Channels}
use Rattle.fluid_runtime.specs.App.{AnApp}

-- an edit is an address with whether a map is attached, or a key and its value if any, or an amount
abbrev pub Parts : Type 0
Parts = List ℕ × (Bool ⊎ (Option (List ℕ × Option Tree) ⊎ ℤ))

abbrev pub parts_of : Edit → Parts
parts_of (Attach address Map) = (address, inl true)
parts_of (Attach address Counter) = (address, inl false)
parts_of (Set address key value) = (address, inr (inl (Some (key, Some value))))
parts_of (Delete address key) = (address, inr (inl (Some (key, None))))
parts_of (Clear address) = (address, inr (inl None))
parts_of (Increment address amount) = (address, inr (inr amount))

abbrev pub of_parts : Parts → Edit
of_parts (address, inl true) = Attach address Map
of_parts (address, inl false) = Attach address Counter
of_parts (address, inr (inl (Some (key, Some value)))) = Set address key value
of_parts (address, inr (inl (Some (key, None)))) = Delete address key
of_parts (address, inr (inl None)) = Clear address
of_parts (address, inr (inr amount)) = Increment address amount

abbrev pub of_parts-parts_of : (edit : Edit) → of_parts (parts_of edit) ≡ edit
of_parts-parts_of (Attach address Map) = refl
of_parts-parts_of (Attach address Counter) = refl
of_parts-parts_of (Set address key value) = refl
of_parts-parts_of (Delete address key) = refl
of_parts-parts_of (Clear address) = refl
of_parts-parts_of (Increment address amount) = refl

abbrev pub edit_code : Coded Edit
edit_code =
    code_by Parts (coded× (coded_list coded_ℕ) (coded⊎ coded_bool (coded⊎ (coded_option (coded× (coded_list coded_ℕ) (coded_option tree_code))) coded_ℤ))) parts_of of_parts
    of_parts-parts_of

abbrev pub AppParts : Type 0
AppParts = Channels × (table.Values Bool × (List Edit × ℕ))

abbrev pub app_code : Coded AnApp
app_code =
    code_by AppParts (coded× channels_code (coded× (table.values_code Bool coded_bool) (coded× (coded_list edit_code) coded_ℕ)))
    (λ app. (app.channels, (app.changed, (app.pending, app.room)))) (λ parts. record { channels = parts.0; changed = parts.1.0; pending = parts.1.1.0; room = parts.1.1.1 })
    (λ _. refl)
