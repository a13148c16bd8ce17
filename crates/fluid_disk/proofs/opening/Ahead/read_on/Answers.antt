use Rattle.std.proofs.Common.{◌≡◌, ◌+◌, ◌-◌, ◌≤◌, ℕ, List, ◌++◌, length, take, drop, ap, sym, subst, ◌∙◌, arith, length-drop}
use Rattle.std.specs.Prelude.{Some}
use Rattle.fluid_disk.specs.Files.{IsAhead}
use Rattle.fluid_disk.proofs.Walks.{ahead_more, ahead_quiet}
use Rattle.fluid_disk.proofs.opening.Ahead.read_on.Goals as goal

pub overflow_add-from : goal.overflow_add-from
overflow_add-from g c =
    omega (
      arith,
      c.requires.ahead.within,
      c.requires.behind,
      c.requires.within,
      c.len-size.ensures,
      c.len-size.type_inv,
      c.len.ensures,
      c.in_ok-bytes.ensures.len,
      ap length c.rest.ensures,
      length-drop (c.args.place - c.args.self.now.start) c.args.self.now.bytes.items,
    )

pub returns-clause-ahead : goal.returns-clause-ahead
returns-clause-ahead g c =
    let rest = c.in_ok-bytes.bytes.items in
    let next = c.in_ok-next.next.items in
    let skipped = length-drop (c.args.place - c.args.self.now.start) c.args.self.now.bytes.items in
    let rest_is : rest ≡ drop (c.args.place - c.args.self.now.start) c.args.self.now.bytes.items = c.in_ok-bytes.ensures.items ∙ c.rest.ensures in
    let size : c.len.result ≡ length rest = omega (arith, c.len.ensures, c.in_ok-bytes.ensures.len, ap length c.in_ok-bytes.ensures.items) in
    let fits : c.args.place + length rest + c.min-count.result ≤ (g.D.Disk.seen c.args.disk.now).size =
    omega (arith, size, c.min-count.ensures, c.len-size.ensures, ap length rest_is, skipped, c.requires.ahead.within, c.requires.behind, c.requires.within) in
    let reads : (held : List ℕ) → (g.D.Disk.seen c.args.disk.now).bytes ≡ Some held → next ≡ take c.min-count.result (drop (c.args.place + length rest) held) =
    λ held told. c.in_ok-next.ensures.bytes held told ∙ ap (λ (n : ℕ). take c.min-count.result (drop (c.args.place + n) held)) size in
    let all = c.in_ok-extend_from_slice.ensures.items ∙ ap (λ (l : List ℕ). rest ++ l) c.deref.ensures.value in
    subst (λ (l : List ℕ). IsAhead c.args.place l (g.D.Disk.seen c.piece.new.disk)) (sym all)
    (ahead_quiet c.args.place (rest ++ next) (g.D.Disk.seen c.args.disk.now) (g.D.Disk.seen c.piece.new.disk) c.piece.ensures.reads.same
    (ahead_more c.args.self.now.start c.args.place c.min-count.result c.args.self.now.bytes.items rest next (g.D.Disk.seen c.args.disk.now) c.requires.ahead c.requires.behind rest_is c.in_ok-next.ensures.size fits reads))
