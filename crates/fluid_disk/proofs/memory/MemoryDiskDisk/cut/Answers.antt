use Rattle.std.proofs.Common.{◌≡◌, ℕ, List, reverse, ap, subst, ◌∙◌}
use Rattle.fluid_disk.specs.declared.call.Call.{Call}
use Rattle.fluid_disk.specs.declared.call.Call.TheVariants.{CutOff}
use Rattle.fluid_disk.specs.Memory.{MayLeave, MemoryStored}
use Rattle.fluid_disk.proofs.History.{newest, follows_cut}
use Rattle.fluid_disk.proofs.memory.MemoryDiskDisk.cut.Goals as goal

pub returns-in-Ok-clause-crash : goal.returns-in-Ok-clause-crash
returns-in-Ok-clause-crash c = λ image now.
    let held = c.self.inside.held.items in
    let new = c.shorten.new.held.items in
    let k = c.in-Ok.ensures.kept in
    let calls = ap (λ (l : List Call). reverse l) k.1 ∙ newest c.self.inside.calls.items (CutOff c.args.to k.0) in
    let before : reverse c.self.inside.calls.items ≡ c.args.self.now.calls = ap (λ (d : MemoryStored). d.calls) c.self.view_is ∙ c.fails.ensures.calls in
    let held_before : held ≡ c.args.self.now.held = ap (λ (d : MemoryStored). d.held) c.self.view_is ∙ c.fails.ensures.held in
    let from = follows_cut (reverse c.self.inside.calls.items) c.args.to k.0 held new k.2 c.in-Ok.ensures.cut image (subst (λ (l : List Call). MayLeave l new image) calls now) in
    (from.0, subst (λ (l : List ℕ). MayLeave c.args.self.now.calls l from.0) held_before (subst (λ (l : List Call). MayLeave l held from.0) before from.1), from.2)
