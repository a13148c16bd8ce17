use Rattle.std.proofs.Common.{◌∙◌, ◌||◌, ap, sym, not, cond, true, string_bytes}
use Rattle.std.proofs.lemmas.Map.Text.{btree_set_updates_text}
use Rattle.std.specs.BTreeSet.{contains_text}
use Rattle.std.specs.List.{list_any}
use Rattle.std.specs.Str.{bytes_eq}
use Rattle.fluid_tree.proofs.Admitted.{either_way}
use Rattle.fluid_tree.proofs.names.Names.admit.Goals as goal

pub returns : goal.returns
returns c before knows =
    let good = sym c.is_bad.ensures ∙ c.if-is_bad.false in
    let named = c.in_ok-key.ensures.ok in
    let old = c.args.self.now.seen in
    let stood = ap (contains_text old) named ∙ knows c.args.name.now in (
      c.in_ok-admitted.ensures.added ∙ ap not stood ∙ ap (λ b. not (b || list_any (λ one. bytes_eq one c.args.name.now) before)) (sym good),
      λ is name.
          btree_set_updates_text (string_bytes c.in_ok-key.key) old c.insert.new.self true c.in_ok-admitted.ensures.updates name
          ∙ ap (λ k. cond (bytes_eq k name) true (contains_text old name)) named
          ∙ ap (cond (bytes_eq c.args.name.now name) true) (knows name)
          ∙ either_way (bytes_eq c.args.name.now name) (list_any (λ one. bytes_eq one name) before),
    )
