use Rattle.std.proofs.Common.{◌≡◌, Some, None, Option, refl, sym, ap, ◌∙◌}
use Rattle.std.specs.Option.{IsSome, option_copied}
use Rattle.std.proofs.lemmas.Option.{same_Some}
use denote.Bor.{Bor}
use Rattle.std.specs.FinMap.{get}
use Rattle.fluid_checkpoint.proofs.Entered.{entry_at}
use Rattle.fluid_checkpoint.proofs.heard.client_at.Goals as goal

is_there : {X : Type 0} (o : Option (Bor X)) (x : X) → option_copied o ≡ Some x → IsSome o
is_there None x is = absurd (cc)
is_there (Some b) x is = refl

there : {X : Type 0} (o : Option (Bor X)) (b : Bor X) (x : X) → o ≡ Some b → option_copied o ≡ Some x → b.now ≡ x
there o b x found is = same_Some (b.now) x (ap option_copied (sym found) ∙ is)

pub unwrap-id-requires : goal.unwrap-id-requires
unwrap-id-requires c = let entry = entry_at c.args.clients.now.rows c.args.place c.requires in is_there c.id_at.result _ (c.id_at.ensures ∙ entry.key)

pub unwrap-row-requires : goal.unwrap-row-requires
unwrap-row-requires c =
    let entry = entry_at c.args.clients.now.rows c.args.place c.requires in
    let id = there c.id_at.result c.unwrap-id.result _ c.unwrap-id.ensures (c.id_at.ensures ∙ entry.key) in
    is_there c.row.result _ (c.row.ensures ∙ ap (get c.args.clients.now.rows) id ∙ entry.row)

pub returns : goal.returns
returns c =
    let entry = entry_at c.args.clients.now.rows c.args.place c.requires in
    let id = there c.id_at.result c.unwrap-id.result _ c.unwrap-id.ensures (c.id_at.ensures ∙ entry.key) in
    let row = there c.row.result c.unwrap-row.result _ c.unwrap-row.ensures (c.row.ensures ∙ ap (get c.args.clients.now.rows) id ∙ entry.row) in
    rw (id, row) entry.is
