use Rattle.std.proofs.Common.{◌∙◌, sym, ap, subst}
use Rattle.fluid_connection.specs.Knowing.{knowing}
use Rattle.fluid_connection.specs.Running.{AreSubmissions, EntersText}
use Rattle.fluid_connection.specs.Hearing.{begin_with_entry, HearsActs}
use Rattle.fluid_connection.proofs.Choosing.{entries_chosen, question_sole, question_some}
use Rattle.fluid_connection.proofs.Hears.{hears_entries, visit_hears}
use Rattle.fluid_connection.proofs.hearing.do_acts.Goals as goal

pub enter_all-pass-requires-clause-acts : goal.enter_all-pass-requires-clause-acts
enter_all-pass-requires-clause-acts g c =
    subst AreSubmissions (sym c.into_vec.ensures)
    (entries_chosen c.args.acts (sym (c.if-begin_with_entry.ensures ∙ ap begin_with_entry c.as_slice.ensures)) c.requires.asked c.requires.fit)

pub sole-requires : goal.sole-requires
sole-requires g c = question_sole c.args.acts (sym (c.if-begin_with_entry.ensures ∙ ap begin_with_entry c.as_slice.ensures)) c.requires.asked

pub do_one-pass-requires-clause-act : goal.do_one-pass-requires-clause-act
do_one-pass-requires-clause-act g c =
    question_some c.args.acts c.in-Some.act (sym (c.if-begin_with_entry.ensures ∙ ap begin_with_entry c.as_slice.ensures)) c.requires.asked c.in-Some.ensures

pub returns-then-begin_with_entry-clause-does : goal.returns-then-begin_with_entry-clause-does
returns-then-begin_with_entry-clause-does g c =
    let s = g.O.Objects.seen c.args.objects.now in
    let subs = entries_chosen c.args.acts (sym (c.if-begin_with_entry.ensures ∙ ap begin_with_entry c.as_slice.ensures)) c.requires.asked c.requires.fit in
    visit_hears c.args.voice.now c.args.visit c.new.result c.deref.result.now c.into_parts-door.result.1 c.enter_all-pass.result.0 s s c.args.acts c.enter_all-pass.result.1 c.enter_all-pass.result.2
    (c.deref.ensures ∙ c.into_parts-door.ensures.parts.0) c.into_parts-door.ensures.parts.1 (c.new.ensures ∙ ap (λ d. record { door = d; pass = c.enter_all-pass.result.0 }) (sym c.deref.ensures))
    (hears_entries _ _ _ s c.args.acts _ _ subs (subst (λ l. EntersText c.args.voice.now (knowing c.deref.result.now.name c.into_parts-door.result.1) (knowing c.deref.result.now.name c.enter_all-pass.result.0) l c.enter_all-pass.result.1 c.enter_all-pass.result.2) c.into_vec.ensures c.enter_all-pass.ensures.does))

pub returns-clause-does : goal.returns-clause-does
returns-clause-does g c =
    let before = g.O.Objects.seen c.args.objects.now in let now = g.O.Objects.seen c.do_one-pass.new.objects in
    visit_hears c.args.voice.now c.args.visit c.new-2.result c.deref-2.result.now c.into_parts-door.result.1 c.do_one-pass.result.0 before now c.args.acts c.do_one-pass.result.1 c.do_one-pass.result.2
    (c.deref-2.ensures ∙ c.into_parts-door.ensures.parts.0) c.into_parts-door.ensures.parts.1 (c.new-2.ensures ∙ ap (λ d. record { door = d; pass = c.do_one-pass.result.0 }) (sym c.deref-2.ensures))
    (subst (λ l. HearsActs c.args.voice.now (knowing c.deref-2.result.now.name c.into_parts-door.result.1) (knowing c.deref-2.result.now.name c.do_one-pass.result.0) before now l c.do_one-pass.result.1 c.do_one-pass.result.2) (sym c.in-Some.ensures) c.do_one-pass.ensures.does)
