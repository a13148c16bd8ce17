use Rattle.std.proofs.Common.{◌∷◌, [], length, length-append, refl, ap, arith}
use Rattle.fluid_types.specs.Ledger.{messages_of}
use Rattle.fluid_document.proofs.Growing.{goes_nowhere, first_behind}
use Rattle.fluid_document.proofs.document.push.Goals as goal

pub returns-in-Sequenced-clause-goes : goal.returns-in-Sequenced-clause-goes
returns-in-Sequenced-clause-goes c =
    rw c.in-Sequenced.is
    (record {
      before = c.push.ensures.before;
      count = omega (arith, c.push.ensures.before, ap length c.push.ensures.held, length-append c.args.messages.now.held (c.in-Sequenced.message ∷ []));
      stands = c.push.ensures.stands;
      part = λ order rest at part. c.push.ensures.part order (first_behind _ order _ rest at) part;
    })

pub returns-in-Nacked-clause-goes : goal.returns-in-Nacked-clause-goes
returns-in-Nacked-clause-goes c = goes_nowhere _ _ _ (ap messages_of c.in-Nacked.is) refl refl

pub returns-in-Dropped-clause-goes : goal.returns-in-Dropped-clause-goes
returns-in-Dropped-clause-goes c = goes_nowhere _ _ _ (ap messages_of c.in-Dropped.is) refl refl

pub returns-in-Absorbed-clause-goes : goal.returns-in-Absorbed-clause-goes
returns-in-Absorbed-clause-goes c = goes_nowhere _ _ _ (ap messages_of c.in-Absorbed.is) refl refl
