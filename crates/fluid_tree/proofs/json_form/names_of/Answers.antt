use Rattle.std.proofs.Common.{rules, ◌∙◌, ◌==◌, ◌++◌, ◌∷◌, [], Some, lit<, ap, sym, refl}
use Rattle.std.specs.List.{list_any, slice_split}
use Rattle.fluid_tree.specs.Names.{is_bad}
use Rattle.fluid_tree.proofs.Parted.{next_is, next_more, last_is, bad_among, still_good}
use Rattle.fluid_tree.proofs.json_form.names_of.Goals as goal

pub returns-then-is_bad : goal.returns-then-is_bad
returns-then-is_bad c =
    let cut = c.in-Some.ensures.byte (lit< tt) (λ w o h. h) in
    let done = c.loop-name.names.items in
    let is = next_is c.args.text.now c.loop-name.rest.now c.in-Some.name.now c.in-Some.more.now done c.loop-name.invariant.all cut.2 cut.0 cut.1 in
    rw (ap (list_any is_bad) (sym is) ∙ bad_among done c.in-Some.name.now _ (sym c.is_bad.ensures ∙ c.if-is_bad.true)) refl

pub loop-name-preserved : goal.loop-name-preserved
loop-name-preserved c =
    let cut = c.in-Some.ensures.byte (lit< tt) (λ w o h. h) in
    let done = c.loop-name.names.items in
    let grown = c.in_ok-push.ensures.items ∙ ap (λ n. done ++ n ∷ []) c.in_ok-name.ensures in record {
      all =
          ap (λ ns. ns ++ slice_split (λ x. x == 47) c.in-Some.more.now) grown
          ∙ next_more c.args.text.now c.loop-name.rest.now c.in-Some.name.now c.in-Some.more.now done c.loop-name.invariant.all cut.2 cut.0 cut.1;
      good = ap (list_any is_bad) grown ∙ still_good done c.in-Some.name.now c.loop-name.invariant.good (sym c.is_bad.ensures ∙ c.if-is_bad.false);
      utf8 = search rules;
    }

pub returns-then-is_bad-2 : goal.returns-then-is_bad-2
returns-then-is_bad-2 c =
    let none = c.in_default.ensures.byte (lit< tt) (λ w o h. h) in
    let done = c.loop-name.names.items in
    let is = last_is c.args.text.now c.loop-name.rest.now done c.loop-name.invariant.all none in
    rw (ap (list_any is_bad) (sym is) ∙ bad_among done c.loop-name.rest.now [] (sym c.is_bad-2.ensures ∙ c.if-is_bad-2.true)) refl

pub returns : goal.returns
returns c =
    let none = c.in_default.ensures.byte (lit< tt) (λ w o h. h) in
    let done = c.loop-name.names.items in
    let rest = c.loop-name.rest.now in
    let is = last_is c.args.text.now rest done c.loop-name.invariant.all none in
    let grown = c.in_ok-push-2.ensures.items ∙ ap (λ n. done ++ n ∷ []) c.in_ok-name-2.ensures in
    rw (ap (list_any is_bad) (sym is) ∙ still_good done rest c.loop-name.invariant.good (sym c.is_bad-2.ensures ∙ c.if-is_bad-2.false)) (ap Some (grown ∙ is))
