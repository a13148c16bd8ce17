-- What a step brings with it is as short as its line.
use Rattle.std.proofs.Common.{◌≡◌, ℕ, ◌+◌, ◌≤◌, arith, Bool, true, false, if◌then◌else◌, List, length, Option, Some, None, Result, Ok, Err, refl, ap, subst}
use Rattle.std.specs.Prelude.{IfSome, nat_lt, option_map, option_and_then}
use Rattle.std.specs.List.{position_or_len, before_first, after_first}
use Rattle.std.specs.Option.{ok_or}
use Rattle.std.proofs.lemmas.List.{length-drop}
use Rattle.fluid_json.specs.declared.fault.JsonFault.{JsonFault}
use Rattle.fluid_edits.specs.declared.edit.Edit.{Edit}
use Rattle.fluid_readback.specs.Laws.{longest_text}
use Rattle.fluid_steps.specs.Grammar.{is_blank, cut, script_name, document_name, number, pick, edit, form, step_of, spelled, word_in, step_spelled}
use Rattle.fluid_steps.specs.Ops.{op_spelled}
use Rattle.fluid_steps.specs.declared.steps.Step.{Step}
use Rattle.fluid_steps.specs.declared.steps.Step.TheVariants as step
use Rattle.fluid_steps.specs.declared.steps.StepWord.{StepWord}
use Rattle.fluid_steps.specs.declared.steps.StepWord.TheVariants as word
use Rattle.fluid_steps.specs.declared.refusal.LineWhy.TheVariants.{BadStep}
use Rattle.fluid_holding.specs.Laws.{OpsAreShort}
use Rattle.fluid_world.specs.Naming.{IsShortStep}

-- ---- options

mapped : {A : Type 0} (f : A → Step) (o : Option A) → ((a : A) → IsShortStep (f a)) → IfSome (option_map f o) IsShortStep
mapped f None h = tt
mapped f (Some a) h = h a

bound : {A : Type 0} (o : Option A) (f : A → Option Step) → ((a : A) → o ≡ Some a → IfSome (f a) IsShortStep) → IfSome (option_and_then f o) IsShortStep
bound None f h = tt
bound (Some a) f h = h a refl

-- ---- parts

behind_blank : (text : List ℕ) → length (after_first is_blank text) ≤ length text
behind_blank text = omega (arith, length-drop (position_or_len is_blank text + 1) text)

cut_shorter : (text : List ℕ) (parts : List ℕ × List ℕ) → cut text ≡ Some parts → length parts.1 ≤ length text
cut_shorter text parts = by (nat_lt (position_or_len is_blank text) (length text))
  where
    by : (b : Bool) → (if b then Some (before_first is_blank text, after_first is_blank text) else None) ≡ Some parts → length parts.1 ≤ length text
    by true is = let same : (before_first is_blank text, after_first is_blank text) ≡ parts = cc in omega (arith, behind_blank text, ap (λ p. length p.1) same)
    by false is = absurd (cc)

-- ---- steps

module _ (ops : OpsAreShort) where
  edits : (name text : List ℕ) (op : Result Edit JsonFault) → length text ≤ longest_text → op_spelled text ≡ Some op → IsShortStep (step.Edit name op)
  edits name text (Ok edit) few is = let short = ops text edit is few in record { nested = short.0; short = short.1 }
  edits name text (Err fault) few is = tt

  says : (name text : List ℕ) (op : Result Edit JsonFault) → length text ≤ longest_text → op_spelled text ≡ Some op → IsShortStep (step.Say name op)
  says name text (Ok edit) few is = let short = ops text edit is few in record { nested = short.0; short = short.1 }
  says name text (Err fault) few is = tt

  forms : (w : StepWord) (rest : List ℕ) → length rest ≤ longest_text → IfSome (form w rest) IsShortStep
  forms word.Send rest few = bound (cut rest) _ (λ parts is. bound (script_name parts.0) _ (λ name named. omega (arith, few, cut_shorter rest parts is)))
  forms word.Collect rest few = mapped step.Collect (script_name rest) (λ name. tt)
  forms word.Close rest few = mapped step.Close (script_name rest) (λ name. tt)
  forms word.Scribe rest few = mapped step.Scribe (document_name rest) (λ name. tt)
  forms word.Checkpoint rest few = mapped step.Checkpoint (document_name rest) (λ name. tt)
  forms word.Restart rest few = bound (cut rest) _ (λ parts is. bound (document_name parts.0) _ (λ name named. bound (number parts.1) _ (λ n numbered. tt)))
  forms word.Reopen rest few = mapped step.Reopen (document_name rest) (λ name. tt)
  forms word.Sweep rest few = bound (cut rest) _ (λ parts is. bound (document_name parts.0) _ (λ name named. bound (number parts.1) _ (λ n numbered. tt)))
  forms word.Count rest few = mapped step.Count (document_name rest) (λ name. tt)
  forms word.Tasks rest few = mapped step.Tasks (document_name rest) (λ name. tt)
  forms word.Load rest few =
      bound (cut rest) _ (λ parts is. bound (cut parts.1) _ (λ others was. bound (script_name parts.0) _ (λ name named. bound (document_name others.0) _ (λ d document. bound (pick others.1) _ (λ p picked. tt)))))
  forms word.Pump rest few = mapped step.Pump (script_name rest) (λ name. tt)
  forms word.Edit rest few =
      bound (cut rest) _ (λ parts is. bound (script_name parts.0) _ (λ name named. bound (op_spelled parts.1) _ (λ op spelt. edits name parts.1 op (omega (arith, few, cut_shorter rest parts is)) spelt)))
  forms word.Beat rest few = mapped step.Beat (script_name rest) (λ name. tt)
  forms word.Summarize rest few = mapped step.Summarize (script_name rest) (λ name. tt)
  forms word.Show rest few = mapped step.Show (script_name rest) (λ name. tt)
  forms word.Roam rest few = bound (cut rest) _ (λ parts is. bound (script_name parts.0) _ (λ name named. bound (document_name parts.1) _ (λ d document. tt)))
  forms word.Say rest few =
      bound (cut rest) _ (λ parts is. bound (script_name parts.0) _ (λ name named. bound (op_spelled parts.1) _ (λ op spelt. says name parts.1 op (omega (arith, few, cut_shorter rest parts is)) spelt)))
  forms word.Lose rest few = mapped step.Lose (script_name rest) (λ name. tt)
  forms word.Back rest few = mapped step.Back (script_name rest) (λ name. tt)
  forms word.Acked rest few = mapped step.Acked (script_name rest) (λ name. tt)

  words : (line : List ℕ) (w : StepWord) → length line ≤ longest_text → IfSome (step_of line w) IsShortStep
  words line w few = bound (cut line) _ (λ parts is. forms w parts.1 (omega (arith, few, cut_shorter line parts is)))

  chosen : (o : Option Step) (s : Step) → IfSome o IsShortStep → ok_or o BadStep ≡ Ok s → IsShortStep s
  chosen None s h is = absurd (cc)
  chosen (Some t) s h is = let same : t ≡ s = cc in subst IsShortStep same h

  by_word : (line : List ℕ) (s : Step) (o : Option StepWord) → length line ≤ longest_text → spelled line o ≡ Ok s → IsShortStep s
  by_word line s None few is = absurd (cc)
  by_word line s (Some w) few is = chosen (step_of line w) s (words line w few) is

  pub spelled_short : (line : List ℕ) (s : Step) → length line ≤ longest_text → step_spelled line ≡ Ok s → IsShortStep s
  spelled_short line s few is = by_word line s (word_in line) few is
