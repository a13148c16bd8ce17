-- What is told by a link of a lane and a store that were lent.
use Rattle.std.proofs.Common.{◌≡◌, Bool, true, ℕ, List, ap, ◌∙◌}
use Rattle.fluid_types.specs.declared.entries.Submission.{Submission}
use Rattle.fluid_store.specs.Storing.{Storing}
use Rattle.fluid_lane.specs.Standing.{Standing}
use Rattle.fluid_loader.specs.Link.{Linked}
use Rattle.fluid_door_link.specs.Telling.{told_by}

pub told_good : (good : Bool) → good ≡ true → (a b : Standing) (s t : Storing) → a ≡ b → s ≡ t → told_by good a s ≡ told_by true b t
told_good good is a b s t lanes stores = ap (λ g. told_by g a s) is ∙ ap (λ x. told_by true x s) lanes ∙ ap (told_by true b) stores

-- what is seen of such a link
abbrev pub seen_as : (good : Bool) → Standing → Storing → (client : List ℕ) → (moment faults refusals bad_trees : ℕ) → (messages : List ℕ) → (objects : List (List ℕ)) → (handles : List ℕ) → (taken : List Submission) → Linked
seen_as good lane store client moment faults refusals bad_trees messages objects handles taken = record {
  client = client;
  moment = moment;
  told = told_by good lane store;
  faults = faults;
  refusals = refusals;
  bad_trees = bad_trees;
  messages = messages;
  objects = objects;
  handles = handles;
  taken = taken;
}
