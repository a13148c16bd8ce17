use Rattle.std.proofs.Common.{rules, arith, sym, subst, FitsSigned, w64}
use Rattle.std.proofs.lemmas.Int.{to_z-of_z}
use Rattle.fluid_gen.specs.declared.act.Act.TheVariants as gen
use Rattle.fluid_load.specs.Standing.{Works}
use Rattle.fluid_load.specs.Acting.{acted}
use Rattle.fluid_load.proofs.Parts.{can_begin, can_less, more_works, opened_works}
use Rattle.fluid_load.proofs.working.Working.act.Goals as goal

pub begin-requires : goal.begin-requires
begin-requires g c = can_begin 4 5 c.args.self.now (omega arith) c.requires

pub returns-in-Begin : goal.returns-in-Begin
returns-in-Begin g c = subst (λ a. Works 5 (acted a) c.args.self.now c.begin.new.self c.begin.result) (sym c.in-Begin.is) (more_works 5 (omega arith) (opened_works c.begin.ensures))

pub join-requires : goal.join-requires
join-requires g c = can_less 1 5 c.args.self.now (omega arith) c.requires

pub returns-in-Join : goal.returns-in-Join
returns-in-Join g c = subst (λ a. Works 5 (acted a) c.args.self.now c.join.new.self c.join.result) (sym c.in-Join.is) (more_works 5 (omega arith) c.join.ensures)

pub collect-requires : goal.collect-requires
collect-requires g c = can_less 1 5 c.args.self.now (omega arith) c.requires

pub returns-in-Collect : goal.returns-in-Collect
returns-in-Collect g c = subst (λ a. Works 5 (acted a) c.args.self.now c.collect.new.self c.collect.result) (sym c.in-Collect.is) (more_works 5 (omega arith) c.collect.ensures)

pub returns-in-Noop : goal.returns-in-Noop
returns-in-Noop g c = subst (λ a. Works 5 (acted a) c.args.self.now c.submit.new.self c.submit.result) (sym c.in-Noop.is) (more_works 5 (omega arith) c.submit.ensures)

pub returns-in-Again : goal.returns-in-Again
returns-in-Again g c = subst (λ a. Works 5 (acted a) c.args.self.now c.submit-in-Again.new.self c.submit-in-Again.result) (sym c.in-Again.is) (more_works 5 (omega arith) c.submit-in-Again.ensures)

pub returns-in-Gap : goal.returns-in-Gap
returns-in-Gap g c = subst (λ a. Works 5 (acted a) c.args.self.now c.submit-in-Gap.new.self c.submit-in-Gap.result) (sym c.in-Gap.is) (more_works 5 (omega arith) c.submit-in-Gap.ensures)

pub set-requires : goal.set-requires
set-requires g c = can_less 1 5 c.args.self.now (omega arith) c.requires

pub returns-in-Set : goal.returns-in-Set
returns-in-Set g c = subst (λ a. Works 5 (acted a) c.args.self.now c.set.new.self c.set.result) (sym c.in-Set.is) (more_works 5 (omega arith) c.set.ensures)

pub delete-requires : goal.delete-requires
delete-requires g c = can_less 1 5 c.args.self.now (omega arith) c.requires

pub returns-in-Delete : goal.returns-in-Delete
returns-in-Delete g c = subst (λ a. Works 5 (acted a) c.args.self.now c.delete.new.self c.delete.result) (sym c.in-Delete.is) (more_works 5 (omega arith) c.delete.ensures)

pub increment-requires : goal.increment-requires
increment-requires g c = can_less 1 5 c.args.self.now (omega arith) c.requires

pub returns-in-Increment : goal.returns-in-Increment
returns-in-Increment g c =
    let fits : FitsSigned w64 c.in-Increment.amount = search rules in
    subst (λ a. Works 5 (acted a) c.args.self.now c.increment.new.self c.increment.result) (sym c.in-Increment.is)
    (more_works 5 (omega arith) (subst (λ x. Works 1 (acted (gen.Increment c.in-Increment.client x)) c.args.self.now c.increment.new.self c.increment.result) (to_z-of_z _ _ fits) c.increment.ensures))

pub returns-in-Round : goal.returns-in-Round
returns-in-Round g c = subst (λ a. Works 5 (acted a) c.args.self.now c.round.new.self c.round.result) (sym c.in-Round.is) c.round.ensures

pub finish-requires : goal.finish-requires
finish-requires g c = can_less 2 5 c.args.self.now (omega arith) c.requires

pub returns-in-Finish : goal.returns-in-Finish
returns-in-Finish g c = subst (λ a. Works 5 (acted a) c.args.self.now c.finish.new.self c.finish.result) (sym c.in-Finish.is) (more_works 5 (omega arith) c.finish.ensures)
