-- What the reader's answer says of the bytes.
use Rattle.std.proofs.Common.{◌≡◌, ◌≤◌, ℕ, List, Result, Ok, Err, ◌⊎◌, inl, inr, refl, sym, ap, ap₂, ◌∙◌, subst}
use Rattle.std.proofs.lemmas.Str.{utf8_valid_len-IsValidUpTo}
use Rattle.std.specs.Prelude.{IfOk, IfErr}
use Rattle.std.specs.Str.{IsUtf8}
use Rattle.json_tree.specs.Tree.{Tree}
use Rattle.json_tree.specs.View.{tree}
use Rattle.json_tree.specs.declared.value.Value.{Value}
use Rattle.json_text.specs.Lex.{tokens}
use Rattle.json_text.specs.Grammar.{Reads}
use Rattle.json_text.specs.FaultKinds.{Kind, syntax, too_deep, out_of_range, TextFaultAt}
use Rattle.json_text.specs.Fault.{IsFault}
use Rattle.json_text.specs.Outcome.{Builds, Ends, IsFor}
use Rattle.json_text.specs.BuilderState.{Refuses}
use Rattle.json_text.specs.declared.read.builder.Refusal.{Refusal}
use Rattle.json_text.specs.declared.read.builder.Refusal.TheVariants.{Memory, Fault}
use Rattle.json_text.specs.declared.read.builder.Kind.TheVariants as builder
use Rattle.json_text.specs.declared.read.TextFault.{TextFault}
use Rattle.json_text.specs.declared.read.TextFault.TheVariants.{Syntax, NotUtf8, Number, TooDeep, NoMemory}
use Rattle.json_text.specs.Machine.{Step, fault, End, refused, run, trees, start}
use Rattle.json_tree.specs.Writable.{IsWritable, tree_levels}
use Rattle.json_text.proofs.Spelled.{reads_writable, reads_low}
use Rattle.json_text.proofs.RunSpells.{reads_from_run, fault_from_run, one_first, no_fault_where_read}

pub reads : (bytes : List ℕ) (r : Result Value TextFault) → IsUtf8 bytes → Builds r (run trees start (tokens bytes)) → IfOk r (λ v. Reads bytes (tree v))
reads bytes (Ok v) u b = reads_from_run bytes (tree v) u b
reads bytes (Err e) u b = tt

pub writable : (bytes : List ℕ) (r : Result Value TextFault) → IsUtf8 bytes → Builds r (run trees start (tokens bytes)) → IfOk r (λ v. IsWritable (tree v))
writable bytes (Ok v) u b = reads_writable bytes (tree v) (reads_from_run bytes (tree v) u b)
writable bytes (Err e) u b = tt

pub low : (bytes : List ℕ) (r : Result Value TextFault) → IsUtf8 bytes → Builds r (run trees start (tokens bytes)) → IfOk r (λ v. tree_levels (tree v) ≤ 32)
low bytes (Ok v) u b = reads_low bytes (tree v) (reads_from_run bytes (tree v) u b)
low bytes (Err e) u b = tt

faulty : (bytes : List ℕ) (e : TextFault) → IsUtf8 bytes → Ends e (run trees start (tokens bytes)) → IsFault bytes e
faulty bytes (Syntax at) u b = fault_from_run bytes syntax at u b
faulty bytes (TooDeep at) u b = fault_from_run bytes too_deep at u b
faulty bytes (Number at) u b = fault_from_run bytes out_of_range at u b
faulty bytes (NotUtf8 at) u b = absurd b
faulty bytes NoMemory u b = tt

-- a step that is refused ends the run
pub refused_at : {step : Step Tree} {run : End Tree} (r : Refusal) (at : ℕ) (e : TextFault) → Refuses r step → IsFor r at e → ((k : Kind) → step ≡ fault k → run ≡ refused k at) → Ends e run
refused_at {step} {run} Memory at e h f k = subst (λ e. Ends e run) (sym f) tt
refused_at {step} {run} (Fault builder.Syntax) at e h f k = subst (λ e. Ends e run) (sym f) (k syntax h)
refused_at {step} {run} (Fault builder.TooDeep) at e h f k = subst (λ e. Ends e run) (sym f) (k too_deep h)
refused_at {step} {run} (Fault builder.OutOfRange) at e h f k = subst (λ e. Ends e run) (sym f) (k out_of_range h)

pub refuses : (bytes : List ℕ) (r : Result Value TextFault) → IsUtf8 bytes → Builds r (run trees start (tokens bytes)) → IfErr r (IsFault bytes)
refuses bytes (Ok v) u b = tt
refuses bytes (Err e) u b = faulty bytes e u b

-- ---- laws

pub none_where_read : (bytes : List ℕ) (v : Tree) (e : TextFault) → Reads bytes v → IsFault bytes e → e ≡ NoMemory
none_where_read bytes v (Syntax at) r f = absurd (no_fault_where_read bytes v syntax at r f)
none_where_read bytes v (TooDeep at) r f = absurd (no_fault_where_read bytes v too_deep at r f)
none_where_read bytes v (Number at) r f = absurd (no_fault_where_read bytes v out_of_range at r f)
none_where_read bytes v (NotUtf8 at) r f = absurd (f.not_utf8 r.1.utf8)
none_where_read bytes v NoMemory r f = refl

abbrev Same : TextFault → TextFault → Type 0
Same e f = (e ≡ NoMemory) ⊎ ((f ≡ NoMemory) ⊎ (e ≡ f))

-- a fault of the tokens, as it is answered
abbrev fault_of : Kind → ℕ → TextFault
fault_of syntax at = Syntax at
fault_of too_deep at = TooDeep at
fault_of out_of_range at = Number at

same_first : (bytes : List ℕ) (k l : Kind) (a b : ℕ) → TextFaultAt bytes k a → TextFaultAt bytes l b → Same (fault_of k a) (fault_of l b)
same_first bytes k l a b e f = let s = one_first (tokens bytes) k l a b e.first f.first in inr (inr (ap₂ fault_of s.0 s.1))

pub one : (bytes : List ℕ) (e f : TextFault) → IsFault bytes e → IsFault bytes f → Same e f
one bytes NoMemory f h k = inl refl
one bytes e NoMemory h k = inr (inl refl)
one bytes (NotUtf8 a) (NotUtf8 b) h k = inr (inr (ap NotUtf8 (sym (utf8_valid_len-IsValidUpTo bytes a h.longest) ∙ utf8_valid_len-IsValidUpTo bytes b k.longest)))
one bytes (NotUtf8 a) (Syntax b) h k = absurd (h.not_utf8 k.utf8)
one bytes (NotUtf8 a) (TooDeep b) h k = absurd (h.not_utf8 k.utf8)
one bytes (NotUtf8 a) (Number b) h k = absurd (h.not_utf8 k.utf8)
one bytes (Syntax a) (NotUtf8 b) h k = absurd (k.not_utf8 h.utf8)
one bytes (TooDeep a) (NotUtf8 b) h k = absurd (k.not_utf8 h.utf8)
one bytes (Number a) (NotUtf8 b) h k = absurd (k.not_utf8 h.utf8)
one bytes (Syntax a) (Syntax b) h k = same_first bytes syntax syntax a b h k
one bytes (Syntax a) (TooDeep b) h k = same_first bytes syntax too_deep a b h k
one bytes (Syntax a) (Number b) h k = same_first bytes syntax out_of_range a b h k
one bytes (TooDeep a) (Syntax b) h k = same_first bytes too_deep syntax a b h k
one bytes (TooDeep a) (TooDeep b) h k = same_first bytes too_deep too_deep a b h k
one bytes (TooDeep a) (Number b) h k = same_first bytes too_deep out_of_range a b h k
one bytes (Number a) (Syntax b) h k = same_first bytes out_of_range syntax a b h k
one bytes (Number a) (TooDeep b) h k = same_first bytes out_of_range too_deep a b h k
one bytes (Number a) (Number b) h k = same_first bytes out_of_range out_of_range a b h k
