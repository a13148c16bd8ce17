-- Worked examples: small orders, and which channels they leave.
use Rattle.std.specs.Prelude.{◌≡◌, ℕ, pos, negsuc, List, [], ◌∷◌, Some, None, codes}
use Rattle.std.specs.FinMap.{empty, get, insert}
use Rattle.fluid_json.specs.Tree.{Tree, null, whole, text, object, members}
use Rattle.fluid_types.specs.declared.messages.Kind.{Kind}
use Rattle.fluid_types.specs.declared.messages.Kind.TheVariants.{Op, Noop}
use Rattle.fluid_types.specs.declared.messages.Message.{Message}
use Rattle.fluid_json.specs.Printed.{printed}
use Rattle.fluid_edits.specs.declared.edit.ChannelKind.TheVariants.{Map, Counter}
use Rattle.fluid_edits.specs.declared.edit.Edit.{Edit}
use Rattle.fluid_edits.specs.declared.edit.Edit.TheVariants.{Attach, Set, Delete, Clear, Increment}
use Rattle.fluid_edits.specs.Forms.{edit_of, contents_of}
use Rattle.fluid_edits.specs.Replay.{a_map, a_counter, no_channels, replay}

-- a message of client A
abbrev pub message : Kind → ℕ → Tree → Message
message kind number contents = record {
  client = Some (codes "A");
  client_number = pos number;
  reference = pos 0;
  number = number;
  minimum = 0;
  kind = kind;
  contents = contents;
  system = None;
  metadata = None;
  moment = 5;
}

-- {"address":A,"kind":K,"type":"attach"}
abbrev pub attach : List ℕ → List ℕ → Tree
attach address kind = object (members ((codes "address", text address) ∷ (codes "kind", text kind) ∷ (codes "type", text (codes "attach")) ∷ []))

-- {"address":A,"contents":{"key":"k","type":"set","value":{"type":"Plain","value":N}}}
abbrev pub set : List ℕ → ℕ → Tree
set address n =
    object
    (members
    ((codes "address", text address)
    ∷ (
      codes "contents",
      object
          (members
          ((codes "key", text (codes "k"))
          ∷ (codes "type", text (codes "set"))
          ∷ (codes "value", object (members ((codes "type", text (codes "Plain")) ∷ (codes "value", whole (pos n)) ∷ [])))
          ∷ [])),
    )
    ∷ []))

-- {"address":A,"contents":{"incrementAmount":N,"type":"increment"}}
abbrev pub increment : List ℕ → ℕ → Tree
increment address n =
    object
    (members
    ((codes "address", text address)
    ∷ (codes "contents", object (members ((codes "incrementAmount", whole (pos n)) ∷ (codes "type", text (codes "increment")) ∷ [])))
    ∷ []))

abbrev pub m : List ℕ
m = codes "m"

abbrev pub n : List ℕ
n = codes "n"

-- m is set before it is attached as a map, again, attached as a counter and incremented; n is a counter that gets 5, too great an
-- amount, and 7
abbrev pub order : List Message
order =
    message Op 1 (set m 1)
    ∷ message Op 2 (attach m (codes "map"))
    ∷ message Op 3 (set m 2)
    ∷ message Op 4 (attach m (codes "counter"))
    ∷ message Op 5 (increment m 3)
    ∷ message Op 6 (attach n (codes "counter"))
    ∷ message Op 7 (increment n 5)
    ∷ message Op 8 (increment n 9007199254740992)
    ∷ message Op 9 (increment n 7)
    ∷ []

pub record OnlyBehindItsAttach : Type 0 where
  pub map : get (replay no_channels order) m ≡ Some (a_map (insert empty (codes "k") (whole (pos 2))))
  pub counter : get (replay no_channels order) n ≡ Some (a_counter (pos 12))

-- a body whose type is "attach" is nothing else than an attach, however it goes on; an address is a name; a kind is "map" or "counter"
pub record OtherFormsCountForNothing : Type 0 where
  pub attach_alone : edit_of (message Op 1 (object
      (members
      ((codes "address", text m)
      ∷ (codes "contents", object (members ((codes "type", text (codes "clear")) ∷ [])))
      ∷ (codes "type", text (codes "attach"))
      ∷ [])))) ≡ None
  pub no_name : edit_of (message Op 1 (attach (codes "m.1") (codes "map"))) ≡ None
  pub no_kind : edit_of (message Op 1 (attach m (codes "list"))) ≡ None
  pub no_op : edit_of (message Noop 1 (attach m (codes "map"))) ≡ None
  pub no_object : edit_of (message Op 1 null) ≡ None

-- the text {"address":"m","kind":"map","type":"attach"} as contents
abbrev pub TextIsSpelled : Type 0
TextIsSpelled = edit_of (message Op 1 (text (codes "{\"address\":\"m\",\"kind\":\"map\",\"type\":\"attach\"}"))) ≡ Some (Attach m Map)

-- the op of the edit has this text, and contents that are this text spell the edit
pub record IsTextOf (edit : Edit) (written : List ℕ) : Type 0 where
  pub printed_so : printed (contents_of edit) ≡ written
  pub read_so : edit_of (message Op 1 (text written)) ≡ Some edit

-- the text of each op
pub record EachOpHasItsText : Type 0 where
  pub of_map : IsTextOf (Attach m Map) (codes "{\"address\":\"m\",\"kind\":\"map\",\"type\":\"attach\"}")
  pub of_counter : IsTextOf (Attach n Counter) (codes "{\"address\":\"n\",\"kind\":\"counter\",\"type\":\"attach\"}")
  pub set_plain : IsTextOf (Set m (codes "k") (whole (pos 1))) (codes "{\"address\":\"m\",\"contents\":{\"key\":\"k\",\"type\":\"set\",\"value\":{\"type\":\"Plain\",\"value\":1}}}")
  pub deletes : IsTextOf (Delete m (codes "k")) (codes "{\"address\":\"m\",\"contents\":{\"key\":\"k\",\"type\":\"delete\"}}")
  pub clears : IsTextOf (Clear m) (codes "{\"address\":\"m\",\"contents\":{\"type\":\"clear\"}}")
  pub adds : IsTextOf (Increment n (negsuc 2)) (codes "{\"address\":\"n\",\"contents\":{\"incrementAmount\":-3,\"type\":\"increment\"}}")
