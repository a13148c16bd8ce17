-- What a container's calls leave of the count of its submissions, and of the trees that were refused.
use Rattle.std.proofs.Common.{◌≡◌, inl, inr, ℕ, ◌+◌, ◌≤◌, arith, List, [], ◌∷◌, Result, Ok, Err, refl, sym, ap, subst, ◌∙◌}
use Rattle.fluid_types.specs.declared.messages.Message.{Message}
use Rattle.fluid_types.specs.declared.entries.Submission.{Submission}
use Rattle.fluid_edits.specs.declared.edit.Edit.{Edit}
use Rattle.fluid_loader.specs.Link.{Linked}
use Rattle.fluid_loader.specs.declared.fault.LoadFault.{LoadFault}
use Rattle.fluid_loader.specs.declared.fault.LoadFault.TheVariants as loads
use Rattle.fluid_loader.specs.Calls.{counted_by, since, edited_by, PumpDoes, PumpReads, Submits, EditDoes, Edits, SummarizeDoes, Proposes, summarize_of}
use Rattle.fluid_loader.specs.Container.{AContainer, behind, taken_by}

-- ---- submissions

-- messages leave it
pub last_behind : (client : List ℕ) (c : AContainer) (messages : List Message) → (behind client c messages).last ≡ c.last
last_behind client c [] = refl
last_behind client c (m ∷ messages) = last_behind client (taken_by client c m) messages

no_more : (old new : AContainer) → new.last ≡ old.last → new.last ≤ old.last + 1
no_more old new same = omega (arith, same)

one_more : (old new : AContainer) → new.last ≡ old.last + 1 → new.last ≤ old.last + 1
one_more old new same = omega (arith, same)

last_of : (old new : AContainer) → new ≡ old → new.last ≡ old.last
last_of old new same = ap (λ (c : AContainer). c.last) same

pub pump_counts : (old new : AContainer) (before after : Linked) (answer : Result ℕ LoadFault) → PumpDoes old new before after answer → new.last ≤ old.last + 1
pump_counts old new before after (Ok number) does = no_more old new (ap (λ (c : AContainer). c.last) does.1.1.1 ∙ last_behind before.client old does.1.0)
pump_counts old new before after (Err fault) does = no_more old new (ap (λ (c : AContainer). c.last) does.1.1.0 ∙ last_behind before.client old does.1.0)

counted_last : (c : AContainer) (answer : Result (Unit {0}) LoadFault) → (counted_by c answer).last ≤ c.last + 1
counted_last c (Ok done) = omega arith
counted_last c (Err (loads.Refused nack)) = omega arith
counted_last c (Err (loads.LinkFailed note)) = omega arith
counted_last c (Err loads.NoSummary) = omega arith
counted_last c (Err (loads.BadSummary path)) = omega arith
counted_last c (Err (loads.Edit fault)) = omega arith
counted_last c (Err loads.NoMemory) = omega arith
counted_last c (Err (loads.Clash id kept bytes)) = omega arith

edited_last : (c : AContainer) (edit : Edit) (answer : Result (Unit {0}) LoadFault) → (edited_by c edit answer).last ≤ c.last + 1
edited_last c edit (Ok done) = omega arith
edited_last c edit (Err (loads.Refused nack)) = omega arith
edited_last c edit (Err (loads.LinkFailed note)) = omega arith
edited_last c edit (Err loads.NoSummary) = omega arith
edited_last c edit (Err (loads.BadSummary path)) = omega arith
edited_last c edit (Err (loads.Edit fault)) = omega arith
edited_last c edit (Err loads.NoMemory) = omega arith
edited_last c edit (Err (loads.Clash id kept bytes)) = omega arith

pub beat_counts : (old new : AContainer) (answer : Result (Unit {0}) LoadFault) → new ≡ counted_by old answer → new.last ≤ old.last + 1
beat_counts old new answer leaves = subst (λ (c : AContainer). c.last ≤ old.last + 1) (sym leaves) (counted_last old answer)

module _ (old new : AContainer) (edit : Edit) (before after : Linked) where
  edits_count : (answer : Result (Unit {0}) LoadFault) → Edits old new edit before after answer → new.last ≤ old.last + 1
  edits_count answer edits = subst (λ (c : AContainer). c.last ≤ old.last + 1) (sym edits.leaves) (edited_last old edit answer)

  pub edit_counts : (answer : Result (Unit {0}) LoadFault) → EditDoes old new edit before after answer → new.last ≤ old.last + 1
  edit_counts (Ok done) does = edits_count (Ok done) does
  edit_counts (Err (loads.Edit fault)) does = no_more old new (last_of old new does.1.container)
  edit_counts (Err loads.NoMemory) (inl undone) = no_more old new (last_of old new undone.container)
  edit_counts (Err loads.NoMemory) (inr edits) = edits_count (Err loads.NoMemory) edits
  edit_counts (Err (loads.Refused nack)) does = edits_count (Err (loads.Refused nack)) does
  edit_counts (Err (loads.LinkFailed note)) does = edits_count (Err (loads.LinkFailed note)) does
  edit_counts (Err loads.NoSummary) does = edits_count (Err loads.NoSummary) does
  edit_counts (Err (loads.BadSummary path)) does = edits_count (Err (loads.BadSummary path)) does
  edit_counts (Err (loads.Clash id kept bytes)) does = edits_count (Err (loads.Clash id kept bytes)) does

  -- no tree was put
  edits_trees : (answer : Result (Unit {0}) LoadFault) → Edits old new edit before after answer → after.bad_trees ≡ before.bad_trees
  edits_trees answer edits = edits.submits.submitted.trees

  pub edit_trees : (answer : Result (Unit {0}) LoadFault) → EditDoes old new edit before after answer → after.bad_trees ≡ before.bad_trees
  edit_trees (Ok done) does = edits_trees (Ok done) does
  edit_trees (Err (loads.Edit fault)) does = ap (λ (x : Linked). x.bad_trees) does.1.link
  edit_trees (Err loads.NoMemory) (inl undone) = ap (λ (x : Linked). x.bad_trees) undone.link
  edit_trees (Err loads.NoMemory) (inr edits) = edits_trees (Err loads.NoMemory) edits
  edit_trees (Err (loads.Refused nack)) does = edits_trees (Err (loads.Refused nack)) does
  edit_trees (Err (loads.LinkFailed note)) does = edits_trees (Err (loads.LinkFailed note)) does
  edit_trees (Err loads.NoSummary) does = edits_trees (Err loads.NoSummary) does
  edit_trees (Err (loads.BadSummary path)) does = edits_trees (Err (loads.BadSummary path)) does
  edit_trees (Err (loads.Clash id kept bytes)) does = edits_trees (Err (loads.Clash id kept bytes)) does

pub pump_trees : (before after : Linked) → PumpReads before after → after.bad_trees ≡ before.bad_trees
pump_trees before after reads = ap (λ (x : Linked). x.bad_trees) reads.same

pub submit_trees : (s : Submission) (before after : Linked) (answer : Result (Unit {0}) LoadFault) → Submits s before after answer → after.bad_trees ≡ before.bad_trees
submit_trees s before after answer submits = submits.submitted.trees

-- ---- a summarize

module _ (old new : AContainer) (submission : Submission) (before after : Linked) where
  pub proposes_count : (answer : Result (Unit {0}) LoadFault) → Proposes old new submission before after answer → new.last ≤ old.last + 1
  proposes_count (Ok done) does = beat_counts old new (Ok done) does.leaves
  proposes_count (Err loads.NoMemory) (inl undone) = no_more old new (last_of old new undone.container)
  proposes_count (Err loads.NoMemory) (inr made) = beat_counts old new (Err loads.NoMemory) made.leaves
  proposes_count (Err (loads.Edit fault)) does = beat_counts old new (Err (loads.Edit fault)) does.leaves
  proposes_count (Err (loads.Refused nack)) does = beat_counts old new (Err (loads.Refused nack)) does.leaves
  proposes_count (Err (loads.LinkFailed note)) does = beat_counts old new (Err (loads.LinkFailed note)) does.leaves
  proposes_count (Err loads.NoSummary) does = beat_counts old new (Err loads.NoSummary) does.leaves
  proposes_count (Err (loads.BadSummary path)) does = beat_counts old new (Err (loads.BadSummary path)) does.leaves
  proposes_count (Err (loads.Clash id kept bytes)) does = beat_counts old new (Err (loads.Clash id kept bytes)) does.leaves

pub summarize_counts : (old new : AContainer) (before after : Linked) (answer : Result (List ℕ) LoadFault) → SummarizeDoes old new before after answer → new.last ≤ old.last + 1
summarize_counts old new before after (Ok id) does = one_more old new (ap (λ (c : AContainer). c.last) does.leaves)
summarize_counts old new before after (Err fault) (inl undone) = no_more old new (last_of old new undone.1.container)
summarize_counts old new before after (Err fault) (inr (inl unput)) = no_more old new (last_of old new unput.leaves)
summarize_counts old new before after (Err fault) (inr (inr alone)) = proposes_count (since old alone.id) new (summarize_of old alone.id) alone.between after (Err fault) alone.ends
