use Rattle.std.proofs.Common.{◌≡◌, ◌≤◌, length}
use Rattle.fluid_types.specs.Forms.{largest}
use Rattle.fluid_connection.specs.Knowing.{knowing}
use Rattle.fluid_connection.proofs.Texts.{Progress}
use Rattle.fluid_connection.proofs.entering.enter_all.Given as goal

-- whatever comes of the rest, it is what comes of all
abbrev pub invariant-loop-act : goal.invariant-loop-act
invariant-loop-act g l = record {
  len : l.act-iterator.rest.len ≡ length l.act-iterator.rest.items;
  turn : l.pass.turn ≡ l.fn.door.turn;
  few : length l.fn.pass.seen ≤ largest → length l.pass.seen ≤ largest;
  so_far : Progress l.fn.voice (knowing l.fn.door.name l.fn.pass) (knowing l.fn.door.name l.pass) l.fn.acts.items l.act-iterator.rest.items l.told (length l.fn.acts.items);
}
