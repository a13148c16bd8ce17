-- How `serve` ends, read off its status, and that it is what the words ask for.
use Rattle.std.proofs.Common.{◌≡◌, ℕ, Bool, true, false, List, Option, Some, None, inl, inr, refl, sym, ap, subst, ◌∙◌, arith}
use Rattle.fluid_words.specs.declared.command.Command.TheVariants.{Sequence, Script, Load, Workload, Serve, Help, Version}
use Rattle.fluid_front.specs.Fronts.{Fronting}
use Rattle.fluid_front.specs.Serving.{Serves, Refuses}
use Rattle.fluid_front.specs.declared.spawner.FrontEnd.{FrontEnd}
use Rattle.fluid_front.specs.declared.spawner.FrontEnd.TheVariants as end
use Rattle.fluidd.specs.declared.task.Task.{Task as Taken}
use Rattle.fluidd.specs.declared.task.Task.TheVariants as taken
use Rattle.fluidd.specs.Output.{code_of}
use Rattle.fluidd.specs.Served.{ServesConnections, served_status}
use Rattle.fluidd.specs.Tasks.{Task, Doing, Showing, Usage, IsTask, scripting, IsScripting, IsReading, IsWorking, UsesDesk}

-- ---- statuses

pub served : (connections : ℕ) (old : Fronting) (refused : ℕ) (new : Fronting) (refusals : ℕ) (e : FrontEnd) →
    Serves connections old new e → Refuses refused refusals e → ServesConnections connections old refused new refusals (code_of (served_status e))
served connections old refused new refusals (end.Done n) h r = record {
  counts = h.counts;
  later = omega (arith, r);
  done = λ e. (n, h.does);
  front_fault = λ e. absurd (omega arith);
  refusal = λ e. absurd (omega arith);
  known = inl refl;
}
served connections old refused new refusals end.FrontFailed h r = record {
  counts = h.counts;
  later = omega (arith, r);
  done = λ e. absurd (omega arith);
  front_fault = λ e. h.does;
  refusal = λ e. absurd (omega arith);
  known = inr (inr (inl refl));
}
served connections old refused new refusals (end.SpawnRefused n) h r = record {
  counts = h.counts;
  later = r.0;
  done = λ e. absurd (omega arith);
  front_fault = λ e. absurd (omega arith);
  refusal = λ e. (r.1, (n, h.does));
  known = inr (inr (inr refl));
}
served connections old refused new refusals end.NoMemory h r = record {
  counts = h.counts;
  later = omega (arith, r);
  done = λ e. absurd (omega arith);
  front_fault = λ e. absurd (omega arith);
  refusal = λ e. absurd (omega arith);
  known = inr (inl refl);
}

-- memory was wanting before anything was done
pub wanting : (connections : ℕ) (front : Fronting) (refused : ℕ) → ServesConnections connections front refused front refused 6
wanting connections front refused = record {
  counts = record { given = omega arith; nones = omega arith; faults = omega arith };
  later = omega arith;
  done = λ e. absurd (omega arith);
  front_fault = λ e. absurd (omega arith);
  refusal = λ e. absurd (omega arith);
  known = inr (inl refl);
}

-- ---- words

-- what is done for a script
abbrev pub done_for : Option (List ℕ) → Taken
done_for None = taken.Script
done_for (Some document) = taken.Load document

-- what was asked for, where it is done
abbrev asked : Taken → Task
asked taken.Sequence = Doing Sequence
asked taken.Script = Doing Script
asked (taken.Load document) = Doing (Load document)
asked (taken.Workload number clients ops) = Doing (Workload number clients ops)
asked (taken.Serve port connections lines) = Doing (Serve port connections lines)
asked (taken.Show status text) = Usage

-- where `serve` is done it was asked for
pub serving : (t : Task) (port connections : ℕ) (lines : Bool) → IsTask t (taken.Serve port connections lines) → t ≡ Doing (Serve port connections lines)
serving (Doing Sequence) port connections lines h = sym (ap asked h)
serving (Doing Script) port connections lines h = sym (ap asked h)
serving (Doing (Load document)) port connections lines h = sym (ap asked h)
serving (Doing (Workload number clients ops)) port connections lines h = sym (ap asked h)
serving (Doing (Serve p c l)) port connections lines h = sym (ap asked h)
serving (Doing (Help topic)) port connections lines h = absurd h
serving (Doing Version) port connections lines h = absurd h
serving (Showing text) port connections lines h = absurd h
serving Usage port connections lines h = absurd h

-- how many connections
abbrev connections_in : Task → ℕ
connections_in (Doing (Serve port connections lines)) = connections
connections_in other = 0

-- so many were asked for
pub as_many : (t : Task) (port connections : ℕ) (lines : Bool) (p c : ℕ) (l : Bool) → IsTask t (taken.Serve port connections lines) → t ≡ Doing (Serve p c l) → connections ≡ c
as_many t port connections lines p c l h is = ap connections_in (sym (serving t port connections lines h) ∙ is)

-- where a script is done it was asked for
pub scripted : (t : Task) (load : Option (List ℕ)) → IsTask t (done_for load) → t ≡ Doing (scripting load)
scripted (Doing Sequence) None h = sym (ap asked h)
scripted (Doing Sequence) (Some document) h = sym (ap asked h)
scripted (Doing Script) None h = refl
scripted (Doing Script) (Some document) h = sym (ap asked h)
scripted (Doing (Load other)) None h = sym (ap asked h)
scripted (Doing (Load other)) (Some document) h = sym (ap asked h)
scripted (Doing (Workload number clients ops)) None h = sym (ap asked h)
scripted (Doing (Workload number clients ops)) (Some document) h = sym (ap asked h)
scripted (Doing (Serve p c l)) None h = sym (ap asked h)
scripted (Doing (Serve p c l)) (Some document) h = sym (ap asked h)
scripted (Doing (Help topic)) load h = absurd h
scripted (Doing Version) load h = absurd h
scripted (Showing text) None h = absurd h
scripted (Showing text) (Some document) h = absurd h
scripted Usage None h = absurd h
scripted Usage (Some document) h = absurd h

-- one of two loads is asked for, and it is this one
same_load : (one other : Option (List ℕ)) → Doing (scripting one) ≡ Doing (scripting other) → one ≡ other
same_load None None h = refl
same_load None (Some document) h = absurd (cc)
same_load (Some document) None h = absurd (cc)
same_load (Some a) (Some b) h = let same : a ≡ b = cc in ap Some same

pub as_loaded : (t : Task) (one other : Option (List ℕ)) → IsTask t (done_for one) → t ≡ Doing (scripting other) → one ≡ other
as_loaded t one other h is = same_load one other (sym (scripted t one h) ∙ is)

pub is_scripting : (t : Task) (load : Option (List ℕ)) → t ≡ Doing (scripting load) → IsScripting t
is_scripting t None is = subst IsScripting (sym is) tt
is_scripting t (Some document) is = subst IsScripting (sym is) tt

pub is_reading : (t : Task) (load : Option (List ℕ)) → t ≡ Doing (scripting load) → IsReading t
is_reading t None is = subst IsReading (sym is) tt
is_reading t (Some document) is = subst IsReading (sym is) tt

pub uses_desk : (t : Task) (load : Option (List ℕ)) → t ≡ Doing (scripting load) → UsesDesk t
uses_desk t None is = subst UsesDesk (sym is) tt
uses_desk t (Some document) is = subst UsesDesk (sym is) tt

-- where a script is asked for it is done
abbrev is_scripted : Taken → Bool
is_scripted taken.Sequence = false
is_scripted taken.Script = true
is_scripted (taken.Load document) = true
is_scripted (taken.Workload number clients ops) = false
is_scripted (taken.Serve port connections lines) = false
is_scripted (taken.Show status text) = false

pub scripted_then : (t : Task) (load : Option (List ℕ)) (done : Taken) → IsTask t done → t ≡ Doing (scripting load) → is_scripted done ≡ true
scripted_then t None done h is = ap is_scripted (subst (λ t. IsTask t done) is h)
scripted_then t (Some document) done h is = ap is_scripted (subst (λ t. IsTask t done) is h)

-- where a workload is done it was asked for
pub working : (t : Task) (number clients ops : ℕ) → IsTask t (taken.Workload number clients ops) → t ≡ Doing (Workload number clients ops)
working (Doing Sequence) number clients ops h = sym (ap asked h)
working (Doing Script) number clients ops h = sym (ap asked h)
working (Doing (Load document)) number clients ops h = sym (ap asked h)
working (Doing (Workload n c k)) number clients ops h = sym (ap asked h)
working (Doing (Serve p c l)) number clients ops h = sym (ap asked h)
working (Doing (Help topic)) number clients ops h = absurd h
working (Doing Version) number clients ops h = absurd h
working (Showing text) number clients ops h = absurd h
working Usage number clients ops h = absurd h

pub is_working : (t : Task) (number clients ops : ℕ) → t ≡ Doing (Workload number clients ops) → IsWorking t
is_working t number clients ops is = subst IsWorking (sym is) tt

-- it uses the desk
pub works_on_desk : (t : Task) (number clients ops : ℕ) → t ≡ Doing (Workload number clients ops) → UsesDesk t
works_on_desk t number clients ops is = subst UsesDesk (sym is) tt

-- one of two workloads is asked for, and it is this one
abbrev work_in : Task → ℕ × (ℕ × ℕ)
work_in (Doing (Workload number clients ops)) = (number, (clients, ops))
work_in other = (0, (0, 0))

pub as_worked : (t : Task) (number clients ops n c k : ℕ) → IsTask t (taken.Workload number clients ops) → t ≡ Doing (Workload n c k) → ◌≡◌ {A = ℕ × (ℕ × ℕ)} (number, (clients, ops)) (n, (c, k))
as_worked t number clients ops n c k h is = ap work_in (sym (working t number clients ops h) ∙ is)

-- where a workload is asked for it is done
abbrev is_worked : Taken → Bool
is_worked taken.Sequence = false
is_worked taken.Script = false
is_worked (taken.Load document) = false
is_worked (taken.Workload number clients ops) = true
is_worked (taken.Serve port connections lines) = false
is_worked (taken.Show status text) = false

pub worked_then : (t : Task) (number clients ops : ℕ) (done : Taken) → IsTask t done → t ≡ Doing (Workload number clients ops) → is_worked done ≡ true
worked_then t number clients ops done h is = ap is_worked (subst (λ t. IsTask t done) is h)
