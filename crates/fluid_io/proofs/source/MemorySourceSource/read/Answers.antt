use Rattle.std.proofs.Common.{◌≡◌, ◌+◌, ◌-◌, drop, Some, ap, sym, ◌∙◌, arith, length-drop, length-append}
use Rattle.std.proofs.lemmas.List.{nil_from_length}
use Rattle.fluid_io.proofs.Prefixes.{IsCopied, copied_length, prefix_and_rest}
use Rattle.fluid_io.proofs.source.MemorySourceSource.read.Goals as goal

-- src/source.rt:74:5
pub returns-clause-does : goal.returns-clause-does
returns-clause-does c =
    let bytes = c.self.inside.bytes.items in
    let start = c.self.inside.start in
    let count = c.min-count.result in
    let left : c.args.self.now.left ≡ drop start bytes = sym (ap (λ r. r.left) c.self.view_is) in
    let same : start + count - start ≡ count = omega arith in
    let copied : IsCopied bytes c.copy_from_slice.new.self start count = record {
      few = rw length-drop (omega arith);
      copied = c.copy_from_slice.ensures.after ∙ rw (same, c.deref.ensures.value);
    } in record {
      within = rw length-append (omega (arith, copied_length bytes c.copy_from_slice.new.self start count copied));
      gives = ap Some (left ∙ prefix_and_rest bytes c.copy_from_slice.new.self (drop count c.args.into.now) start count copied);
      ended = λ none room. left ∙ nil_from_length (drop start bytes) (rw length-drop (omega (
        arith,
        c.self.invariant.1,
        copied_length bytes c.copy_from_slice.new.self start count copied,
        length-drop count c.args.into.now,
        length-append c.copy_from_slice.new.self (drop count c.args.into.now),
      )));
    }
