-- What the verdict of a plan tells of the filter.
use Rattle.std.proofs.Common.{◌≡◌, ℕ, ℤ, Bool, true, false, ◌&&◌, ◌||◌, not, List, [], ◌∷◌, map, Option, Some, None, refl, sym, ◌∙◌, ap, ap₂, subst}
use Rattle.std.specs.List.{list_any, list_all}
use Rattle.std.specs.Ordering.{int_cmp, is_lt, is_le, is_gt, is_ge}
use Rattle.std.specs.declared.cmp.Ordering.{Ordering}
use Rattle.std.specs.declared.cmp.Ordering.TheVariants.{Less, Equal, Greater}
use Rattle.std.proofs.Math.Bool.{beq}
use Rattle.json_tree.specs.Tree.{Tree, null, boolean, number, text, date, list, object}
use Rattle.doc_paths.specs.At.{at}
use Rattle.doc_paths.specs.Text.{parts}
use Rattle.filter_tree.specs.Paths.{is_path}
use Rattle.shred_cols.specs.Entry.{kept_of}
use Rattle.filter_plan.specs.Steps.{is_whole}
use Rattle.shred_cols.specs.Probe.{meets}
use Rattle.shred_cols.specs.Columns.{IsColumns}
use Rattle.shred_cols.specs.declared.entry.Entry.{Entry}
use Rattle.shred_cols.specs.declared.probe.Probe.TheVariants as p
use Rattle.filter_tree.specs.Matches.{equals, ordered, passes}
use Rattle.filter_plan.specs.Steps.{steps_of, inverse, both, either, of_probe, verdict, all_verdict, any_verdict}
use Rattle.filter_plan.specs.Planned.{has}
use Rattle.filter_plan.specs.Judging.{digest_stands}
use Rattle.filter_plan.specs.declared.step.Verdict.{Verdict}
use Rattle.filter_plan.specs.declared.step.Verdict.TheVariants.{Yes, No, Look}
use Rattle.json_tree.specs.Writable.{IsWritable}
use Rattle.filter_tree.specs.Ready.{AllWritable}
use Rattle.filter_plan.proofs.Writables.{writable_at}
use Rattle.filter_plan.proofs.Keeping.{Told, kept_whole}
use Rattle.filter_plan.proofs.Found.{not_true, left_true, right_true, both_true, at_equals, equals_at, has_at, at_has, num_within, date_within}

-- a verdict on a condition that has the value b, where a look is wanted only if it is open
abbrev pub Tells : Verdict → Bool → Bool → Type 0
Tells Yes b o = b ≡ true
Tells No b o = b ≡ false
Tells Look b o = o ≡ true

pub tells_at : (v : Verdict) (a b o : Bool) → a ≡ b → Tells v a o → Tells v b o
tells_at v a b o e h = subst (λ x. Tells v x o) e h

pub tells_not : (v : Verdict) (b o : Bool) → Tells v b o → Tells (inverse v) (not b) o
tells_not Yes b o h = ap not h
tells_not No b o h = ap not h
tells_not Look b o h = h

pub tells_either : (v w : Verdict) (a b o q : Bool) → Tells v a o → Tells w b q → Tells (either v w) (a || b) (o || q)
tells_either Yes w a b o q h k = left_true a b h
tells_either No Yes a b o q h k = right_true a b k
tells_either No No a b o q h k = ap₂ (λ x y. x || y) h k
tells_either No Look a b o q h k = right_true o q k
tells_either Look Yes a b o q h k = right_true a b k
tells_either Look No a b o q h k = left_true o q h
tells_either Look Look a b o q h k = left_true o q h

pub left_false : (a b : Bool) → a ≡ false → (a && b) ≡ false
left_false a b h = ap (λ x. x && b) h

pub right_false : (a b : Bool) → b ≡ false → (a && b) ≡ false
right_false true b h = h
right_false false b h = refl

pub tells_both : (v w : Verdict) (a b o q : Bool) → Tells v a o → Tells w b q → Tells (both v w) (a && b) (o || q)
tells_both No w a b o q h k = left_false a b h
tells_both Yes Yes a b o q h k = both_true a b h k
tells_both Yes No a b o q h k = right_false a b k
tells_both Yes Look a b o q h k = right_true o q k
tells_both Look Yes a b o q h k = left_true o q h
tells_both Look No a b o q h k = right_false a b k
tells_both Look Look a b o q h k = left_true o q h

pub tells_probe : (m b o : Bool) → m ≡ b → Tells (of_probe m true) b o
tells_probe true b o e = sym e
tells_probe false b o e = sym e

-- ---- `$eq` and the tests made of it

pub has_tells : (d : Tree) (c : List Entry) (q : List ℕ) (x : Tree) → Told d → IsWritable x → IsColumns d c → is_path q ≡ true → Tells (verdict c (has q x)) (equals (at d (parts q)) x) (digest_stands c q x)
has_tells d c q x wd wx are path = go (meets (p.Has q (kept_of x)) c) (is_whole (kept_of x)) refl refl
  where
    go : (m w : Bool) → meets (p.Has q (kept_of x)) c ≡ m → is_whole (kept_of x) ≡ w → Tells (of_probe m w) (equals (at d (parts q)) x) (not w && m)
    go false w e whole = not_true (equals (at d (parts q)) x) (λ h. let t = at_has d c q x are path (equals_at wd.alike (at d (parts q)) x h) in let clash : true ≡ false = sym t ∙ e in Prim.cc clash)
    go true true e whole =
        let a = has_at d c q (kept_of x) are e in
        let same : a.0 ≡ x = kept_whole d wd a.0 x (writable_at d (parts q) a.0 wd.writable a.1) wx whole a.2 in
        ap (equals (at d (parts q))) (sym same) ∙ at_equals wd.alike (at d (parts q)) a.0 a.1
    go true false e whole = refl

pub any_tells : (d : Tree) (c : List Entry) (q : List ℕ) (xs : List Tree) → Told d → AllWritable xs → IsColumns d c → is_path q ≡ true
    → Tells (any_verdict c (steps_of (map (has q) xs))) (list_any (equals (at d (parts q))) xs) (list_any (digest_stands c q) xs)
any_tells d c q [] wd ws are path = refl
any_tells d c q (x ∷ xs) wd ws are path = tells_either (verdict c (has q x)) (any_verdict c (steps_of (map (has q) xs))) _ _ _ _ (has_tells d c q x wd ws.0 are path) (any_tells d c q xs wd ws.1 are path)

pub all_tells : (d : Tree) (c : List Entry) (q : List ℕ) (xs : List Tree) → Told d → AllWritable xs → IsColumns d c → is_path q ≡ true
    → Tells (all_verdict c (steps_of (map (has q) xs))) (list_all (equals (at d (parts q))) xs) (list_any (digest_stands c q) xs)
all_tells d c q [] wd ws are path = refl
all_tells d c q (x ∷ xs) wd ws are path = tells_both (verdict c (has q x)) (all_verdict c (steps_of (map (has q) xs))) _ _ _ _ (has_tells d c q x wd ws.0 are path) (all_tells d c q xs wd ws.1 are path)

-- ---- orders of numbers and dates

pub only : (b : Bool) → beq b true ≡ b
only true = refl
only false = refl

pub only_not : (b : Bool) → beq b false ≡ not b
only_not true = refl
only_not false = refl

-- the verdict of two probes, the second of which is left out
pub strict_tells : (m n a b o : Bool) → m ≡ a → n ≡ b → Tells (both (of_probe m true) (both (inverse (of_probe n true)) Yes)) (a && (not b && true)) o
strict_tells true true a b o e k = ap₂ (λ x y. x && (not y && true)) (sym e) (sym k)
strict_tells true false a b o e k = ap₂ (λ x y. x && (not y && true)) (sym e) (sym k)
strict_tells false n a b o e k = ap (λ x. x && (not b && true)) (sym e)

-- both ends of the range [x, x]
greater : (o : Ordering) → ((is_ge o && true) && (not (is_ge o && is_le o) && true)) ≡ is_gt o
greater Less = refl
greater Equal = refl
greater Greater = refl

less : (o : Ordering) → (is_le o && (not (is_ge o && is_le o) && true)) ≡ is_lt o
less Less = refl
less Equal = refl
less Greater = refl

and_true : (b : Bool) → (b && true) ≡ b
and_true true = refl
and_true false = refl

pub num_gt : (v : Option Tree) (n : ℤ) → (num_within (Some n) None v && (not (num_within (Some n) (Some n) v) && true)) ≡ passes is_gt (ordered v (number n))
num_gt (Some (number m)) n = greater (int_cmp m n)
num_gt None n = refl
num_gt (Some null) n = refl
num_gt (Some (boolean b)) n = refl
num_gt (Some (text t)) n = refl
num_gt (Some (date m)) n = refl
num_gt (Some (list ts)) n = refl
num_gt (Some (object ms)) n = refl

pub num_lt : (v : Option Tree) (n : ℤ) → (num_within None (Some n) v && (not (num_within (Some n) (Some n) v) && true)) ≡ passes is_lt (ordered v (number n))
num_lt (Some (number m)) n = less (int_cmp m n)
num_lt None n = refl
num_lt (Some null) n = refl
num_lt (Some (boolean b)) n = refl
num_lt (Some (text t)) n = refl
num_lt (Some (date m)) n = refl
num_lt (Some (list ts)) n = refl
num_lt (Some (object ms)) n = refl

pub num_ge : (v : Option Tree) (n : ℤ) → num_within (Some n) None v ≡ passes is_ge (ordered v (number n))
num_ge (Some (number m)) n = and_true (is_ge (int_cmp m n))
num_ge None n = refl
num_ge (Some null) n = refl
num_ge (Some (boolean b)) n = refl
num_ge (Some (text t)) n = refl
num_ge (Some (date m)) n = refl
num_ge (Some (list ts)) n = refl
num_ge (Some (object ms)) n = refl

pub num_le : (v : Option Tree) (n : ℤ) → num_within None (Some n) v ≡ passes is_le (ordered v (number n))
num_le (Some (number m)) n = refl
num_le None n = refl
num_le (Some null) n = refl
num_le (Some (boolean b)) n = refl
num_le (Some (text t)) n = refl
num_le (Some (date m)) n = refl
num_le (Some (list ts)) n = refl
num_le (Some (object ms)) n = refl

pub date_gt : (v : Option Tree) (n : ℤ) → (date_within (Some n) None v && (not (date_within (Some n) (Some n) v) && true)) ≡ passes is_gt (ordered v (date n))
date_gt (Some (date m)) n = greater (int_cmp m n)
date_gt None n = refl
date_gt (Some null) n = refl
date_gt (Some (boolean b)) n = refl
date_gt (Some (text t)) n = refl
date_gt (Some (number m)) n = refl
date_gt (Some (list ts)) n = refl
date_gt (Some (object ms)) n = refl

pub date_lt : (v : Option Tree) (n : ℤ) → (date_within None (Some n) v && (not (date_within (Some n) (Some n) v) && true)) ≡ passes is_lt (ordered v (date n))
date_lt (Some (date m)) n = less (int_cmp m n)
date_lt None n = refl
date_lt (Some null) n = refl
date_lt (Some (boolean b)) n = refl
date_lt (Some (text t)) n = refl
date_lt (Some (number m)) n = refl
date_lt (Some (list ts)) n = refl
date_lt (Some (object ms)) n = refl

pub date_ge : (v : Option Tree) (n : ℤ) → date_within (Some n) None v ≡ passes is_ge (ordered v (date n))
date_ge (Some (date m)) n = and_true (is_ge (int_cmp m n))
date_ge None n = refl
date_ge (Some null) n = refl
date_ge (Some (boolean b)) n = refl
date_ge (Some (text t)) n = refl
date_ge (Some (number m)) n = refl
date_ge (Some (list ts)) n = refl
date_ge (Some (object ms)) n = refl

pub date_le : (v : Option Tree) (n : ℤ) → date_within None (Some n) v ≡ passes is_le (ordered v (date n))
date_le (Some (date m)) n = refl
date_le None n = refl
date_le (Some null) n = refl
date_le (Some (boolean b)) n = refl
date_le (Some (text t)) n = refl
date_le (Some (number m)) n = refl
date_le (Some (list ts)) n = refl
date_le (Some (object ms)) n = refl
