use Rattle.std.proofs.Common.{rules, ◌≡◌, ◌&&◌, [], ◌∷◌, ◌++◌, true, false, length, Ok, Err, bytes_eq, refl, ap, ◌∙◌}
use Rattle.fluid_types.specs.Messages.{message_spelled}
use Rattle.fluid_types.specs.Printed.{message_printed}
use Rattle.fluid_loader.specs.Listed.{is_next}
use Rattle.fluid_loader.proofs.Pushed.{order_more, puts_one, puts_none, spells_none}
use Rattle.fluid_loader.proofs.order.Order.push.Goals as goal
use Rattle.fluid_loader.proofs.order.Order.push.Goals.{then-ne-via-then-ne, then-ne-via-else-ne+then-not-is_next}

pub returns-in-Err-clause-pushed : goal.returns-in-Err-clause-pushed
returns-in-Err-clause-pushed c =
    let spelled : message_spelled c.args.text.now ≡ Err c.in-Err.field-0 = search rules in
    spells_none c.args.text.now c.args.self.now c.args.self.now c.in-Err.field-0 spelled refl

pub returns-then-ne-clause-pushed : goal.returns-then-ne-clause-pushed
returns-then-ne-clause-pushed c =
    let text = c.args.text.now in
    let old = c.args.self.now in
    let m = c.in-Ok.message in
    let spelled : message_spelled text ≡ Ok m = search rules in
    elim c.then-ne.branch [
      | then-ne-via-then-ne w ↦
          let differs : bytes_eq (message_printed m) text ≡ false = search rules in
          puts_none (length old) text old old m refl spelled (ap (λ b. b && is_next (length old) m) differs) refl
      | then-ne-via-else-ne+then-not-is_next w ↦
          let same : bytes_eq (message_printed m) text ≡ true = search rules in
          let last : is_next w.len.result m ≡ false = search rules in
          let long : w.len.result ≡ length old = search rules in
          puts_none w.len.result text old old m long spelled (ap (λ b. b && is_next w.len.result m) same ∙ last) refl
    ]

pub returns-clause-pushed : goal.returns-clause-pushed
returns-clause-pushed c =
    let text = c.args.text.now in
    let old = c.args.self.now in
    let m = c.in-Ok.message in
    let spelled : message_spelled text ≡ Ok m = search rules in
    let same : bytes_eq (message_printed m) text ≡ true = search rules in
    let next : is_next c.len.result m ≡ true = search rules in
    let long : c.len.result ≡ length old = search rules in
    let added : c.push.new.self.items ≡ old ++ m ∷ [] = c.in_ok-push.ensures.items ∙ ap (λ ms. ms ++ m ∷ []) c.self.view_is in
    puts_one c.len.result text old c.push.new.self.items m long spelled (ap (λ b. b && is_next c.len.result m) same ∙ next) added

pub invariant_of-self-2 : goal.invariant_of-self-2
invariant_of-self-2 c =
    let m = c.in-Ok.message in
    let long : c.len.result ≡ length c.self.inside.messages.items = search rules in
    let spelled : message_spelled c.args.text.now ≡ Ok m = search rules in
    let printed : message_printed m ≡ c.args.text.now = search rules in
    let next : is_next c.len.result m ≡ true = search rules in
    order_more c.self.inside.messages.items c.push.new.self.items m c.args.text.now c.len.result c.in_ok-push.ensures.items c.self.invariant.0 long spelled printed c.utf8.text next
