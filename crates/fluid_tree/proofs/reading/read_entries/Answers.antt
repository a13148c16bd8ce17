use Rattle.std.proofs.Common.{◌∙◌, ◌∷◌, [], ◌++◌, ◌-◌, ◌<◌, ◌&&◌, length, length-drop, drop, map, not, inr, ap, sym, subst, arith}
use Rattle.std.specs.Prelude.{slice_get}
use Rattle.fluid_tree.specs.Names.{is_refused}
use Rattle.fluid_tree.specs.Reading.{is_behind}
use Rattle.fluid_tree.proofs.Rest.{IsReading, begins, nonempty, emptied, entry_long, no_entry, unfit_entry, goes_on, all_read}
use Rattle.fluid_tree.proofs.reading.read_entries.Goals as goal

pub loop-rest-init : goal.loop-rest-init
loop-rest-init c =
    subst (λ es. IsReading c.args.total c.new-names.result.seen es c.args.body.now c.args.body.now) (sym c.new-entries.ensures.items)
    (begins c.args.total c.new-names.result.seen c.args.body.now c.new-names.ensures)

pub returns-in-None : goal.returns-in-None
returns-in-None c =
    let some = nonempty c.loop-rest.rest.now c.is_empty.result c.is_empty.ensures c.loop-rest-test.true in
    inr (sym (no_entry c.args.total c.loop-rest.names.seen c.loop-rest.entries.items c.loop-rest.rest.now c.args.body.now c.loop-rest.invariant some (sym c.in_ok-found.ensures.entry ∙ c.in-None.is)))

pub returns-then-not-fits : goal.returns-then-not-fits
returns-then-not-fits c =
    let before = c.loop-rest.entries.items in
    let e = c.in-Some.entry in
    let some = nonempty c.loop-rest.rest.now c.is_empty.result c.is_empty.ensures c.loop-rest-test.true in
    let known = c.in_ok-fits.ensures (map (λ f. f.name) before) c.loop-rest.invariant.knows in
    let unfit =
    sym (known.0 ∙ ap (λ es. not (is_refused (map (λ f. f.name) before) e.name) && is_behind (slice_get es (length es - 1)) e) c.as_slice.ensures.value) ∙ c.if-not-fits.true in
    inr (sym (unfit_entry c.args.total c.loop-rest.names.seen before c.loop-rest.rest.now c.args.body.now e c.loop-rest.invariant some (sym c.in_ok-found.ensures.entry ∙ c.in-Some.is) unfit))

pub loop-rest-smaller : goal.loop-rest-smaller
loop-rest-smaller c =
    let some = nonempty c.loop-rest.rest.now c.is_empty.result c.is_empty.ensures c.loop-rest-test.true in
    subst (λ xs. length xs < length c.loop-rest.rest.now) (sym c.behind-rest.ensures)
    (omega (arith, some, length-drop c.entry_len.result c.loop-rest.rest.now, c.entry_len.ensures, entry_long c.in-Some.entry))

pub loop-rest-preserved : goal.loop-rest-preserved
loop-rest-preserved c =
    let before = c.loop-rest.entries.items in
    let e = c.in-Some.entry in
    let rest = c.loop-rest.rest.now in
    let some = nonempty rest c.is_empty.result c.is_empty.ensures c.loop-rest-test.true in
    let known = c.in_ok-fits.ensures (map (λ f. f.name) before) c.loop-rest.invariant.knows in
    let fit =
    sym (known.0 ∙ ap (λ es. not (is_refused (map (λ f. f.name) before) e.name) && is_behind (slice_get es (length es - 1)) e) c.as_slice.ensures.value) ∙ c.if-not-fits.false in
    let seen = c.fits_behind.new.names.seen in
    let on =
    goes_on c.args.total c.loop-rest.names.seen seen before rest c.args.body.now e c.loop-rest.invariant some (sym c.in_ok-found.ensures.entry ∙ c.in-Some.is) fit (known.1 c.if-not-fits.false) (entry_long e) in
    subst (λ es. IsReading c.args.total seen es c.behind-rest.result.now c.args.body.now) (sym c.in_ok-push.ensures.items)
    (subst (λ xs. IsReading c.args.total seen (before ++ e ∷ []) xs c.args.body.now) (sym (c.behind-rest.ensures ∙ ap (λ k. drop k rest) c.entry_len.ensures)) on)

pub returns : goal.returns
returns c =
    inr (sym (all_read c.args.total c.loop-rest.names.seen c.loop-rest.entries.items c.loop-rest.rest.now c.args.body.now c.loop-rest.invariant
    (emptied c.loop-rest.rest.now c.is_empty.result c.is_empty.ensures c.loop-rest-test.false)))
