use Rattle.std.proofs.Common.{◌-◌, take, drop, ap, sym}
use Rattle.fluid_io.proofs.Pieces.{takes_whole, takes_all}
use Rattle.fluid_io.proofs.chunk.Chunk.take_piece.Goals as goal

-- src/chunk.rt:67:5
pub returns-in_ok-extend_from_slice-in-Some-clause-piece :
    goal.returns-in_ok-extend_from_slice-in-Some-clause-piece
returns-in_ok-extend_from_slice-in-Some-clause-piece c =
    let s = c.self.inside in
    takes_whole _ _ _ _ s.bytes.items s.start s.end c.in-Some.at (sym c.self.view_is)
    (ap (λ b. take (s.end - s.start) (drop s.start b)) c.deref.ensures.value)
    c.in-Some.ensures.0 c.in-Some.ensures.1 c.in_ok-extend_from_slice-in-Some.ensures.items

-- src/chunk.rt:67:5
pub returns-in_ok-extend_from_slice-in-None-clause-piece :
    goal.returns-in_ok-extend_from_slice-in-None-clause-piece
returns-in_ok-extend_from_slice-in-None-clause-piece c =
    let s = c.self.inside in
    takes_all _ _ _ _ s.bytes.items s.start s.end (sym c.self.view_is)
    (ap (λ b. take (s.end - s.start) (drop s.start b)) c.deref.ensures.value)
    c.in-None.ensures c.in_ok-extend_from_slice-in-None.ensures.items
