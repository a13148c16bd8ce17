use Rattle.std.proofs.Common.{◌≡◌, ◌≤◌, ℕ, List, length, reverse, ap, sym, subst, ◌∙◌, arith}
use Rattle.fluid_disk.specs.declared.call.Call.{Call}
use Rattle.fluid_disk.specs.declared.call.Call.TheVariants.{Wrote}
use Rattle.fluid_disk.specs.Disk.{Torn}
use Rattle.fluid_disk.specs.Memory.{MayLeave, MemoryStored}
use Rattle.fluid_disk.proofs.History.{newest, follows_write}
use Rattle.fluid_disk.proofs.Tears.{torn_done}
use Rattle.fluid_disk.proofs.memory.MemoryDiskDisk.write_at.Goals as goal

pub returns-in-Ok-clause-crash : goal.returns-in-Ok-clause-crash
returns-in-Ok-clause-crash c = λ image now.
    let n = length c.args.bytes.now in
    let held = c.self.inside.held.items in
    let new = c.overwrite.new.held.items in
    let k = c.in-Ok.ensures.kept in
    let calls = ap (λ (l : List Call). reverse l) k.1 ∙ newest c.self.inside.calls.items (Wrote c.args.at n k.0) in
    let before : reverse c.self.inside.calls.items ≡ c.args.self.now.calls = ap (λ (d : MemoryStored). d.calls) c.self.view_is ∙ c.fails.ensures.calls in
    let held_before : held ≡ c.args.self.now.held = ap (λ (d : MemoryStored). d.held) c.self.view_is ∙ c.fails.ensures.held in
    let le : c.args.at ≤ length held = omega (arith, c.requires, ap length held_before) in
    let torn : Torn c.args.at n held new = subst (λ (l : List ℕ). Torn c.args.at n held l) (sym c.in-Ok.ensures.written) (torn_done c.args.at c.args.bytes.now held le) in
    let from = follows_write (reverse c.self.inside.calls.items) c.args.at n k.0 held new k.2 torn image (subst (λ (l : List Call). MayLeave l new image) calls now) in
    (from.0, subst (λ (l : List ℕ). MayLeave c.args.self.now.calls l from.0) held_before (subst (λ (l : List Call). MayLeave l held from.0) before from.1), from.2)
