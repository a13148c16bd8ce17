-- What the contents of an edit's op spell, and the worked examples.
use Rattle.std.proofs.Common.{◌≡◌, ℕ, ◌≤◌, List, Ok, codes, pos, negsuc, refl, sym, ap, ◌∙◌, arith, rules}
use Rattle.fluid_edits.specs.declared.edit.Edit.{Edit}
use Rattle.fluid_edits.specs.Forms.{address_of}
use Rattle.fluid_types.specs.Names.{IsName}
use Rattle.std.specs.Fmt.{digits}
use Rattle.std.specs.List.{filter_map}
use Rattle.std.specs.FinMap.{get-empty}
use Rattle.json.specs.Print.{escape_byte}
use Rattle.fluid_json.specs.Printed as json
use Rattle.fluid_json.specs.Printed.{printed}
use Rattle.fluid_json.specs.Spelled.{answer}
use Rattle.fluid_json.specs.Tree.{Tree, text, whole, IsCanonical, depth}
use Rattle.fluid_json.proofs.ReadBack.{answers_itself}
use Rattle.fluid_table.specs.Table.{byte_order}
use Rattle.fluid_types.specs.Contents.{body}
use Rattle.fluid_types.specs.Names.{is_name}
use Rattle.fluid_edits.specs.declared.edit.ChannelKind.TheVariants.{Map, Counter}
use Rattle.fluid_edits.specs.declared.edit.Edit.TheVariants.{Attach, Set, Delete, Clear, Increment}
use Rattle.fluid_edits.specs.Forms.{edit_in, edit_of, contents_of}
use Rattle.fluid_edits.specs.Replay.{channel_behind, no_channels}
use Rattle.fluid_edits.specs.Laws.{IsSpelled}
use Rattle.fluid_edits.specs.Examples.{m, n, order, attach, OnlyBehindItsAttach, OtherFormsCountForNothing, TextIsSpelled, IsTextOf, EachOpHasItsText}
use Rattle.fluid_edits.proofs.Replays.{first_attach_law}

pub spelled_law : IsSpelled
unfolding edit_in contents_of
spelled_law (Attach address Map) named = rw named refl
spelled_law (Attach address Counter) named = rw named refl
spelled_law (Set address key value) named = rw named refl
spelled_law (Delete address key) named = rw named refl
spelled_law (Clear address) named = rw named refl
spelled_law (Increment address amount) named = rw named refl

pub only_behind_its_attach : OnlyBehindItsAttach
unfolding edit_in body is_name
only_behind_its_attach = record {
  map = first_attach_law no_channels (filter_map edit_of order) m ∙ ap (λ c. channel_behind m c (filter_map edit_of order)) (get-empty byte_order m);
  counter = first_attach_law no_channels (filter_map edit_of order) n ∙ ap (λ c. channel_behind n c (filter_map edit_of order)) (get-empty byte_order n);
}

pub other_forms_count_for_nothing : OtherFormsCountForNothing
unfolding edit_in body is_name
other_forms_count_for_nothing = record { attach_alone = refl; no_name = refl; no_kind = refl; no_op = refl; no_object = refl }

spells : (s : List ℕ) (t : Tree) → s ≡ json.printed t → IsCanonical t → depth t ≤ 100 → answer s ≡ Ok t
spells s t is canonical shallow = ap answer is ∙ answers_itself 101 t canonical (omega (arith, shallow)) (omega (arith, shallow))

attach_text : answer (codes "{\"address\":\"m\",\"kind\":\"map\",\"type\":\"attach\"}") ≡ Ok (attach m (codes "map"))
unfolding escape_byte
attach_text = spells _ (attach m (codes "map")) refl ((refl, (refl, tt)), (tt, ((refl, tt), (tt, (tt, (tt, tt)))))) (omega arith)

pub text_is_spelled : TextIsSpelled
unfolding edit_in body is_name
text_is_spelled = rw attach_text refl

-- ---- the text of each op

read_by : (written : List ℕ) (t : Tree) → answer written ≡ Ok t → body (text written) ≡ t
unfolding body
read_by written t is = rw is refl

text_of : (edit : Edit) (written : List ℕ) → IsName (address_of edit) → printed (contents_of edit) ≡ written → IsCanonical (contents_of edit) → depth (contents_of edit) ≤ 100 → IsTextOf edit written
text_of edit written named is canonical shallow = record {
  printed_so = is;
  read_so = ap edit_in (read_by written (contents_of edit) (spells written (contents_of edit) (sym is) canonical shallow)) ∙ spelled_law edit named;
}

pub each_op_has_its_text : EachOpHasItsText
unfolding contents_of escape_byte is_name digits
each_op_has_its_text = record {
  of_map = text_of (Attach m Map) _ refl refl (search rules) (omega arith);
  of_counter = text_of (Attach n Counter) _ refl refl (search rules) (omega arith);
  set_plain = text_of (Set m (codes "k") (whole (pos 1))) _ refl refl (search rules) (omega arith);
  deletes = text_of (Delete m (codes "k")) _ refl refl (search rules) (omega arith);
  clears = text_of (Clear m) _ refl refl (search rules) (omega arith);
  adds = text_of (Increment n (negsuc 2)) _ refl refl (search rules) (omega arith);
}
