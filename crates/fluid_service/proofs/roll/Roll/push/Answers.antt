use Rattle.std.proofs.Common.{◌≡◌, ℕ, ◌<◌, List, [], ◌∷◌, ◌++◌, Some, None, sym, ap, subst, ◌∙◌}
use Rattle.std.proofs.lemmas.Bool.{false≢true}
use Rattle.std.specs.String.{string_bytes, string_eq}
use Rattle.indexmap.proofs.CallerLemmas.{insert_entry-new}
use Rattle.fluid_service.specs.Visiting.{Enrolled, visits_of, AreNamed, is_among, name_of}
use Rattle.std.proofs.Common.{map, false}
use Rattle.fluid_service.proofs.Enrolling.{lookup_none, named_push, visits_push}
use Rattle.fluid_service.proofs.roll.Roll.push.Goals as goal

pub invariant_of-self : goal.invariant_of-self
invariant_of-self g c =
    let entries = c.in-Ok-None.ensures.entries ∙ insert_entry-new string_eq c.self.inside.rows c.args.text (c.args.name, c.args.visit) (sym c.in-Ok-None.ensures.old ∙ c.in-Ok-None.field-0-is) in
    subst (AreNamed string_bytes) (sym entries) (named_push string_bytes c.self.inside.rows.entries (c.args.text, (c.args.name, c.args.visit)) c.self.invariant c.requires.named.0 c.requires.named.1)

pub returns : goal.returns
returns g c =
    let entries = c.in-Ok-None.ensures.entries ∙ insert_entry-new string_eq c.self.inside.rows c.args.text (c.args.name, c.args.visit) (sym c.in-Ok-None.ensures.old ∙ c.in-Ok-None.field-0-is) in
    ap visits_of entries ∙ visits_push string_bytes c.self.inside.rows.entries (c.args.text, (c.args.name, c.args.visit)) ∙ ap (λ (e : Enrolled). e.visits ++ c.args.visit ∷ []) c.self.view_is

none_some : {A : Type 0} (a : A) → ◌≡◌ {A = Rattle.std.proofs.Common.Option A} None (Some a) → ⊥
none_some a same = cc

-- the name is new
pub unreachable-requires : goal.unreachable-requires
unreachable-requires g c =
    let q = c.requires.named.0 ∙ c.requires.named.1 in
    let new = subst (λ n. is_among n (map name_of c.args.self.now.visits) ≡ false) (sym q) c.requires.new in
    let none = lookup_none string_bytes (string_bytes c.args.text) c.self.inside.rows.entries c.self.invariant (subst (λ (e : Enrolled). is_among (string_bytes c.args.text) (map name_of e.visits) ≡ false) (sym c.self.view_is) new) in
    none_some c.in-Ok-Some.field-0-0 (sym none ∙ sym c.in-Ok-Some.ensures.old ∙ c.in-Ok-Some.field-0-is)

pub unreachable-requires-in-Err : goal.unreachable-requires-in-Err
unreachable-requires-in-Err g c = absurd (false≢true (c.in-Err.ensures.succeeds (subst (λ (e : Enrolled). 0 < e.spare) (sym c.self.view_is) c.requires.room)))
