use Rattle.std.proofs.Common.{rules, ◌≡◌, Some, None}
use Rattle.fluid_types.specs.Blobs.{value_tree}
use Rattle.fluid_quorum.proofs.Written.{put_some, put_none}
use Rattle.fluid_quorum.proofs.writing.put_value_place.Goals as goal

pub returns-in_ok-put_value-in-Some-clause-tokens : goal.returns-in_ok-put_value-in-Some-clause-tokens
returns-in_ok-put_value-in-Some-clause-tokens c =
    let is : c.args.place.now ≡ Some c.in-Some.accepted = search rules in
    put_some (λ a. value_tree (c.args.key.now, a)) c.args.place.now c.in-Some.accepted c.args.out.now.tokens c.put_value.new.out.tokens is c.in_ok-put_value-in-Some.ensures.tokens

pub returns-in-None-clause-tokens : goal.returns-in-None-clause-tokens
returns-in-None-clause-tokens c =
    let is : c.args.place.now ≡ None = search rules in
    put_none (λ a. value_tree (c.args.key.now, a)) c.args.place.now c.args.out.now.tokens is
