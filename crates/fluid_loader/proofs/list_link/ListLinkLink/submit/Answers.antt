use Rattle.std.proofs.Common.{rules, ◌≤◌, refl}
use Rattle.fluid_io.specs.Causes.{Rose}
use Rattle.fluid_types.specs.declared.entries.Raw.TheVariants.{Submit}
use Rattle.fluid_loader.proofs.Listing.{nacked_enters}
use Rattle.fluid_loader.proofs.list_link.ListLinkLink.submit.Goals as goal

pub returns-in-Some-Nacked-clause-does : goal.returns-in-Some-Nacked-clause-does
returns-in-Some-Nacked-clause-does c =
    let now = c.args.self.now in
    let rose : Rose now.refusals c.saturating_add-self.result = search rules in
    let later : now.refusals ≤ c.saturating_add-self.result = search rules in
    record {
      changes = record { client = refl; moment = refl; faults = c.fails.ensures.later; refusals = later; messages = refl; objects = refl };
      handles = refl;
      trees = refl;
      says = (refl, (rose, nacked_enters (Submit now.client c.args.submission 0) c.in-Some-Nacked.nack now.order now.objects.held));
    }
