-- The states in which commands begin.
use Rattle.std.proofs.Common.{◌≡◌, ℕ, ◌+◌, ◌<◌, ◌≤◌, List, [], ◌∷◌, ◌++◌, map, take, reverse, length, Bool, true, false, Option, Some, None, refl, sym, ap, ◌∙◌, subst, arith, Vec, Global}
use Rattle.std.specs.Prelude.{is_none, is_some, not}
use Rattle.std.specs.List.{AllByRecursion as Each}
use Rattle.std.specs.Option.{option_map}
use Rattle.std.proofs.Math.Seq.{take-length}
use Rattle.std.proofs.lemmas.List.{reverse-reverse, reverse-append, length-reverse}
use Rattle.json_tree.specs.Tree.{Tree}
use Rattle.json_tree.specs.View.{tree}
use Rattle.json_tree.specs.declared.value.Value.{Value}
use Rattle.filter_tree.specs.Filters.{FilterTree}
use Rattle.filter_tree.specs.View.{filter_tree}
use Rattle.view_sort.specs.declared.page.PageState.{PageState}
use Rattle.cmd_grammar.specs.Commands.{Paging, IsAskablePaging, IsStorable}
use Rattle.cmd_tasks.specs.Wanted.{IsWanted}
use Rattle.cmd_tasks.specs.Part.{from_of, given_of, most_of, keep_of}
use Rattle.cmd_tasks.specs.Looking.{AreShort}
use Rattle.cmd_tasks.specs.Searching.{IsFresh}
use Rattle.cmd_tasks.specs.Jobs.{Job, inserts, finds}
use Rattle.cmd_tasks.specs.Many.{taking, IsMany, IsStart, IsStand}
use Rattle.cmd_tasks.specs.Moves.{paging, documents_of, Begins, IsInsertions, IsUnbegun}
use Rattle.cmd_tasks.specs.declared.work.Insertions.{Insertions}
use Rattle.cmd_tasks.specs.declared.work.Many.{Many}
use Rattle.cmd_tasks.specs.declared.work.Stand.{Stand}
use Rattle.cmd_tasks.specs.declared.work.Search.{Search}
use Rattle.cmd_tasks.specs.declared.work.Progress.{Progress}
use Rattle.cmd_tasks.specs.declared.work.Part.{Part}
use Rattle.cmd_tasks.specs.declared.work.State.TheVariants.{Inserting, Listing, Paging as paging_many}

-- ---- insertions

each_append : {A : Type 0} (P : A → Type 0) (xs ys : List A) → Each P xs → Each P ys → Each P (xs ++ ys)
each_append P [] ys h t = t
each_append P (x ∷ xs) ys h t = (h.0, each_append P xs ys h.1 t)

each_reverse : {A : Type 0} (P : A → Type 0) (xs : List A) → Each P xs → Each P (reverse xs)
each_reverse P [] h = tt
each_reverse P (x ∷ xs) h = subst (Each P) (sym (reverse-append (x ∷ []) xs)) (each_append P (reverse xs) (x ∷ []) (each_reverse P xs h.1) (h.0, tt))

pub inserting_begins : (i : Insertions) (documents : List Value) → i.left.items ≡ reverse documents → i.all.value.items ≡ i.left.items → i.ids.items ≡ [] → i.errors.items ≡ [] → Each (λ d. IsStorable (tree d)) documents
    → 0 < length documents → length documents ≤ 100 → Begins (inserts (map tree documents) i.ordered) (Inserting i)
inserting_begins i documents left all none none_told storable some few =
    let size : length i.left.items ≡ length documents = ap length left ∙ length-reverse documents in record {
      asks = ap (λ (l : List Value). Some (inserts (map tree l) i.ordered)) (ap reverse (all ∙ left) ∙ reverse-reverse documents);
      ready = record {
        storable = subst (Each (λ d. IsStorable (tree d))) (sym left) (each_reverse (λ d. IsStorable (tree d)) documents storable);
        last = sym (ap (take (length i.left.items)) all ∙ take-length i.left.items);
        some = omega (arith, size, some);
        few = let n = ap length none in omega (arith, size, few, n);
      };
      first = record { all = sym all; ids = none; errors = none_told };
    }

-- ---- find

pub listing_begins : (search : Search) (p : Progress) (part : Part) (f : FilterTree) (q : Paging) (last : Option Tree) (most : ℕ) → filter_tree search.wanted.filter ≡ f → paging part ≡ q → IsWanted search.wanted
    → IsFresh last p → last ≡ from_of q → search.keep ≡ q.skip + most → most ≡ most_of q → most ≤ 20 → IsAskablePaging q → part.given ≡ given_of q.page
    → Begins (finds f search.sort part.projection q) (Listing search p part)
listing_begins search p part f q last most f_is part_is wanted fresh last_is keep_is most_is few askable given_is = record {
  asks = λ i. Some (finds (f_is i) search.sort part.projection (part_is i));
  ready = (
    record { wanted = wanted; few = (let n = fresh.shown in omega arith); most = (let n = askable.skip in omega arith) },
    record { askable = subst IsAskablePaging (sym part_is) askable; given = given_is ∙ ap (λ (z : Paging). given_of z.page) (sym part_is) },
    keep_is ∙ (ap (λ (n : ℕ). q.skip + n) most_is ∙ ap keep_of (sym part_is)),
  );
  first = record { last = fresh.last ∙ (last_is ∙ ap from_of (sym part_is)); kept = fresh.kept; shown = fresh.shown };
}

-- ---- commands that take many documents

start_stand : (from : Option Tree) (stand : Stand) → IsStart from stand → IsStand stand
start_stand from stand h = record {
  few = let n = h.matched in omega arith;
  changed = let n = h.matched in let m = h.modified in omega arith;
  waiting = let n = ap length h.queue in omega arith;
  short = subst AreShort (sym h.queue) tt;
  lost = let n = ap length h.lost in omega arith;
}

-- there is none where the test for one says so
pub none_so : (o : Option PageState) (b : Bool) → is_some o ≡ not b → b ≡ is_none o
none_so None true e = refl
none_so None false e = cc
none_so (Some page) true e = cc
none_so (Some page) false e = refl

pub many_begins : (job : Job) (many : Many) (from : Option Tree) (stand : Stand) → taking many ≡ job → IsMany many → IsStart from stand → from ≡ option_map (λ p. p.last) many.page.value → Begins job (paging_many many stand)
many_begins job many from stand is ready start from_is = record {
  asks = ap (λ (t : Job). Some t) is;
  ready = (ready, start_stand from stand start, start.unlisted, start.queue);
  first = subst (λ (f : Option Tree). IsStart f stand) from_is start;
}
