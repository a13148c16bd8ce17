use Rattle.std.proofs.Common.{◌∙◌}
use Rattle.fluid_feed.proofs.Printing.{event-is}
use Rattle.fluid_feed.proofs.events.print.Goals as goal

pub returns : goal.returns
returns c =
    c.new.ensures ∙ c.in_ok-push_str-4.ensures.bytes
    ∙ rw (c.in_ok-put_messages.ensures, c.in_ok-push_str-3.ensures.bytes, c.in_ok-push_str-2.ensures.bytes, c.as_str.ensures, c.in_ok-name.ensures, c.in_ok-push_str.ensures.bytes, c.in_ok-out.ensures.bytes)
    (event-is c.args.name.now c.args.texts.now)
