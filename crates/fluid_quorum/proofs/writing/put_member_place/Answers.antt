use Rattle.std.proofs.Common.{rules, ◌≡◌, Some, None}
use Rattle.fluid_types.specs.Blobs.{member_tree}
use Rattle.fluid_quorum.proofs.Written.{put_some, put_none}
use Rattle.fluid_quorum.proofs.writing.put_member_place.Goals as goal

pub returns-in_ok-put_member-in-Some-clause-tokens : goal.returns-in_ok-put_member-in-Some-clause-tokens
returns-in_ok-put_member-in-Some-clause-tokens c =
    let is : c.args.place.now ≡ Some c.in-Some.member = search rules in
    put_some member_tree c.args.place.now c.in-Some.member c.args.out.now.tokens c.put_member.new.out.tokens is c.in_ok-put_member-in-Some.ensures.tokens

pub returns-in-None-clause-tokens : goal.returns-in-None-clause-tokens
returns-in-None-clause-tokens c =
    let is : c.args.place.now ≡ None = search rules in
    put_none member_tree c.args.place.now c.args.out.now.tokens is
