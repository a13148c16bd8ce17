use Rattle.std.proofs.Common.{rules, ◌≡◌, inl, [], ◌∷◌, ◌++◌, option_map, refl, ap, ◌∙◌, arith}
use Rattle.fluid_io.specs.Causes.{Rose}
use Rattle.fluid_loader.proofs.Listing.{none_put, upload_fails}
use Rattle.fluid_loader.proofs.list_link.ListLinkLink.upload.Goals as goal

pub returns-then-fails-clause-does : goal.returns-then-fails-clause-does
returns-then-fails-clause-does c =
    let now = c.args.self.now in
    let rose : Rose now.plan.faults c.fails.new.self.faults = search rules in
    record {
      changes = record { client = refl; moment = refl; faults = c.fails.ensures.later; refusals = omega arith; messages = refl; objects = refl };
      taken = refl;
      trees = inl refl;
      says = (rose, none_put c.args.tree.now (option_map (λ id. id.now) c.args.base) now.order now.objects.held);
    }

pub returns-then-keep-clause-does : goal.returns-then-keep-clause-does
returns-then-keep-clause-does c =
    let now = c.args.self.now in
    let did = c.in-Ok.ensures now.order in
    let kept : c.keep.new.counts.items ≡ now.handles.items ++ c.handles_in.result ∷ [] = search rules in
    record {
      changes = record { client = refl; moment = refl; faults = c.fails.ensures.later; refusals = omega arith; messages = refl; objects = refl };
      taken = refl;
      trees = refl;
      says = (kept ∙ ap (λ n. now.handles.items ++ n ∷ []) c.handles_in.ensures, (did.0, did.1.0));
    }

pub returns-else-keep-clause-does : goal.returns-else-keep-clause-does
returns-else-keep-clause-does c = record {
  changes = record { client = refl; moment = refl; faults = c.fails.ensures.later; refusals = omega arith; messages = refl; objects = refl };
  taken = refl;
  trees = refl;
  says = (c.in-Ok.ensures c.args.self.now.order).1.1;
}

pub returns-in-Err-clause-does : goal.returns-in-Err-clause-does
returns-in-Err-clause-does c =
    let now = c.args.self.now in
    upload_fails c.args.tree.now (option_map (λ id. id.now) c.args.base) now.client now.order now.messages.items now.fetched.items now.handles.items now.taken.items c.in-Err.fault c.counted.result now.objects.held
    c.put.new.objects.held now.plan.faults c.fails.new.self.faults c.counted.new.plan.faults now.refusals c.counted.new.refusals c.counted.ensures.same c.fails.ensures.later c.counted.ensures.counted
    (c.in-Err.ensures now.order)
