use Rattle.std.proofs.Common.{Err, refl, sym, subst}
use Rattle.fluid_desk.specs.declared.stop.Stop.TheVariants.{NoMemory}
use Rattle.fluid_roamers.specs.Stepping.{IsUnsaid}
use Rattle.fluid_roamers.proofs.stepping.unsaid.Goals as goal

pub returns-in-NoChannel : goal.returns-in-NoChannel
returns-in-NoChannel c = subst (λ fault. IsUnsaid c.args.name.now fault c.line_or_stop.result) (sym c.in-NoChannel.is) (c.line_or_stop.ensures _ c.edit_fault_line.ensures)

pub returns-in-WrongKind : goal.returns-in-WrongKind
returns-in-WrongKind c = subst (λ fault. IsUnsaid c.args.name.now fault c.line_or_stop-in-WrongKind.result) (sym c.in-WrongKind.is) (c.line_or_stop-in-WrongKind.ensures _ c.edit_fault_line-in-WrongKind.ensures)

pub returns-in-OutOfRange : goal.returns-in-OutOfRange
returns-in-OutOfRange c = subst (λ fault. IsUnsaid c.args.name.now fault c.line_or_stop-in-OutOfRange.result) (sym c.in-OutOfRange.is) (c.line_or_stop-in-OutOfRange.ensures _ c.edit_fault_line-in-OutOfRange.ensures)

pub returns-in-Exists : goal.returns-in-Exists
returns-in-Exists c = subst (λ fault. IsUnsaid c.args.name.now fault c.line_or_stop-in-Exists.result) (sym c.in-Exists.is) (c.line_or_stop-in-Exists.ensures _ c.edit_fault_line-in-Exists.ensures)

pub returns-in-NoMemory : goal.returns-in-NoMemory
returns-in-NoMemory c = subst (λ fault. IsUnsaid c.args.name.now fault (Err NoMemory)) (sym c.in-NoMemory.is) refl
