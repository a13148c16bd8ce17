use Rattle.std.proofs.Common.{◌∙◌, if◌then◌else◌, None, sym, ap, subst}
use Rattle.fluid_voice.specs.States.{is_connected}
use Rattle.fluid_connection.specs.Knowing.{keyed}
use Rattle.fluid_connection.specs.Talked.{Talked, pass_of, talking}
use Rattle.fluid_connection.specs.Connecting.{ReachesVisit, MaySettle, Settles}
use Rattle.fluid_connection.proofs.Greetings.{greeted_settled}
use Rattle.fluid_connection.proofs.Keyrings.{keeps_many, count_is}
use Rattle.fluid_connection.proofs.Reached.{connect_lost, connect_failed, connect_refused, connect_settled}
use Rattle.fluid_connection.proofs.talk.Talk.connect.Goals as goal

pub settle-requires-clause-settled : goal.settle-requires-clause-settled
settle-requires-clause-settled g c =
    subst (λ name. MaySettle name c.args.connect.write c.greet-visit.result.0 c.greet-visit.result.2) (sym c.greet-visit.ensures.name)
    (greeted_settled c.args.connect c.in-Ok.visit c.greet-visit.result.0 c.greet-visit.result.2 c.in-Ok.ensures.reached.named c.greet-visit.ensures.does)

pub returns-in-Ok-clause-does : goal.returns-in-Ok-clause-does
returns-in-Ok-clause-does g c =
    let settles = subst (λ name. Settles c.reach.new.self c.settle.new.self name c.args.connect.write c.greet-visit.result.0 c.greet-visit.result.2 c.settle.result.0 c.settle.result.1) c.greet-visit.ensures.name c.settle.ensures.does in
    connect_settled c.args.self.now c.settle.new.self c.args.connect c.in-Ok.visit c.greet-visit.result.0 c.settle.result.0 c.requires.fresh
    (subst (λ m. ReachesVisit c.args.connect.name c.args.self.now.handed c.args.self.now.key m c.in-Ok.visit) (sym c.settle.ensures.key) c.in-Ok.ensures.reached)
    settles.visit_is (settles.handed ∙ ap (λ (t : Talked). if is_connected c.settle.new.self.voice then None else t.handed) c.reach.ensures.same) c.greet-visit.result.2 c.settle.result.1 c.greet-visit.ensures.does settles.by

pub returns-in-Err-TooManyDocuments-clause-does : goal.returns-in-Err-TooManyDocuments-clause-does
returns-in-Err-TooManyDocuments-clause-does g c =
    let same = c.refuse.ensures.same ∙ c.reach.ensures.same in
    let key = rw c.in-Err-TooManyDocuments.field-0-is at c.in-Err-TooManyDocuments.ensures.reached in
    let keyed_same = ap (λ (t : Talked). keyed t.key) (sym c.refuse.ensures.same) in
    connect_refused (talking c.args.self.now) (talking c.refuse.new.self) c.args.connect c.refuse.result.0 c.requires.fresh
    (ap (λ (t : Talked). t.voice) same ∙ c.requires.fresh) (ap (λ (t : Talked). pass_of t.visit) same) (ap (λ (t : Talked). pass_of t.handed) same) c.refuse.result.1
    (rw keyed_same at (count_is _ _ _ _ key)) (rw keyed_same at (keeps_many _ _ _ _ key)) c.refuse.ensures.said

pub returns-in-Err-ShelfFailed-clause-does : goal.returns-in-Err-ShelfFailed-clause-does
returns-in-Err-ShelfFailed-clause-does g c =
    let same = c.reach.ensures.same in
    connect_failed (talking c.args.self.now) (talking c.reach.new.self) c.args.connect c.new.result c.requires.fresh
    (ap (λ (t : Talked). t.voice) same ∙ c.requires.fresh) (ap (λ (t : Talked). pass_of t.visit) same) (ap (λ (t : Talked). pass_of t.handed) same)
    _ tt (rw c.in-Err-ShelfFailed.field-0-is at c.in-Err-ShelfFailed.ensures.reached) c.new.ensures.replies c.new.ensures.counts

pub returns-in-Err-Lane-clause-does : goal.returns-in-Err-Lane-clause-does
returns-in-Err-Lane-clause-does g c =
    let same = c.reach.ensures.same in
    connect_failed (talking c.args.self.now) (talking c.reach.new.self) c.args.connect c.new-in-Err-Lane.result c.requires.fresh
    (ap (λ (t : Talked). t.voice) same ∙ c.requires.fresh) (ap (λ (t : Talked). pass_of t.visit) same) (ap (λ (t : Talked). pass_of t.handed) same)
    _ tt (rw c.in-Err-Lane.field-0-is at c.in-Err-Lane.ensures.reached) c.new-in-Err-Lane.ensures.replies c.new-in-Err-Lane.ensures.counts

pub returns-in-Err-NoMemory-clause-does : goal.returns-in-Err-NoMemory-clause-does
returns-in-Err-NoMemory-clause-does g c =
    let same = c.reach.ensures.same in
    connect_lost (talking c.args.self.now) (talking c.reach.new.self) c.args.connect c.new-in-Err-NoMemory.result c.requires.fresh
    (ap (λ (t : Talked). t.voice) same ∙ c.requires.fresh) (ap (λ (t : Talked). pass_of t.visit) same) (ap (λ (t : Talked). pass_of t.handed) same)
    (rw c.in-Err-NoMemory.field-0-is at c.in-Err-NoMemory.ensures.reached) c.new-in-Err-NoMemory.ensures.replies c.new-in-Err-NoMemory.ensures.counts
