-- A task that steps while another session writes, in a test.
use Rattle.std.proofs.Common.{◌≡◌, ◌≢◌, ℕ, ◌<◌, ◌≤◌, List, [], ◌∷◌, ◌++◌, length, false, Option, Some, refl, sym, ◌∙◌, subst, arith, ne_eqb}
use Rattle.store_core.specs.State.{State as Base}
use Rattle.store_core.specs.Counts.{AllBy, by_of, opened_in}
use Rattle.store_core.specs.declared.entry.Entry.{Entry}
use Rattle.store_core.specs.declared.entry.Entry.TheVariants.{Opened, Created, Dropped, Changed, Failed}
use Rattle.cmd_grammar.specs.Commands.{CommandTree, insert_one, insert_many, find_one, find, count_documents, update_one, update_many, delete_one, delete_many, find_one_and_update, find_one_and_replace, find_one_and_delete, create_collection, find_collections, delete_collection}
use Rattle.cmd_tasks.specs.Session.{NoWork, is_work}
use Rattle.cmd_tasks.specs.Stands.{StandsOn, IsSame, IsTargeted}
use Rattle.cmd_tasks.specs.declared.task.Task.{Task}

-- every command may be on a collection
pub targeted : (coll : List ℕ) (c : CommandTree) → IsTargeted (Some coll) c
targeted coll (insert_one d) = refl
targeted coll (insert_many ds ordered) = refl
targeted coll (find_one f sort shows) = refl
targeted coll (find f sort shows p) = refl
targeted coll (count_documents f) = refl
targeted coll (update_one f u sort upsert) = refl
targeted coll (update_many f u upsert page) = refl
targeted coll (delete_one f sort) = refl
targeted coll (delete_many f) = refl
targeted coll (find_one_and_update f u sort shows upsert after) = refl
targeted coll (find_one_and_replace f r sort shows upsert after) = refl
targeted coll (find_one_and_delete f sort shows) = refl
targeted coll (create_collection name) = refl
targeted coll find_collections = tt
targeted coll (delete_collection name) = refl

-- ---- the history grows

opened_more : (H more : List Entry) → opened_in H ≤ opened_in (H ++ more)
opened_more [] more = omega arith
opened_more (Opened k ∷ H) more = omega (arith, opened_more H more)
opened_more (Created by coll ∷ H) more = opened_more H more
opened_more (Dropped by coll ∷ H) more = opened_more H more
opened_more (Changed by coll id change before tx ∷ H) more = opened_more H more
opened_more (Failed by before count ∷ H) more = opened_more H more

other_work : (k : ℕ) (e : Entry) → by_of e ≢ k → is_work k e ≡ false
other_work k (Opened b) n = refl
other_work k (Created b c) n = ne_eqb b k n
other_work k (Dropped b c) n = ne_eqb b k n
other_work k (Changed b c id change before tx) n = ne_eqb b k n
other_work k (Failed b before count) n = ne_eqb b k n

others_idle : (j k : ℕ) (es : List Entry) → k ≢ j → AllBy j es → NoWork k es
others_idle j k [] n h = tt
others_idle j k (e ∷ es) n h = (other_work k e (λ q. n (sym q ∙ h.0)), others_idle j k es n h.1)

longer : (k : ℕ) (H more : List Entry) → k < opened_in H → k < opened_in (H ++ more)
longer k H more l = let m = opened_more H more in omega arith

-- ---- the task

pub record Contends (k j : ℕ) (start : Option Base) (H : List Entry) (task : Task) : Type 0 where
  pub mine : task.session ≡ k
  pub known : (k < opened_in H) × (j < opened_in H)
  pub stands : StandsOn start H task

-- after a step of the task
pub goes_on : (k j : ℕ) (start start' : Option Base) (H H' : List Entry) (t t' : Task) → Contends k j start H t → IsSame t t' → (more : List Entry) × (H' ≡ H ++ more) × AllBy t.session more × (length more ≤ 1) → StandsOn start' H' t' → Contends k j start' H' t'
goes_on k j start start' H H' t t' c same grown stands = record {
  mine = same.session ∙ c.mine;
  known = subst (λ (J : List Entry). (k < opened_in J) × (j < opened_in J)) (sym grown.1) (longer k H grown.0 c.known.0, longer j H grown.0 c.known.1);
  stands = stands;
}

-- the entries of other sessions leave a task where it stands
abbrev pub MayAppend : Type 0
MayAppend = (start : Option Base) (H more : List Entry) (task : Task) → NoWork task.session more → StandsOn start H task → StandsOn start (H ++ more) task

-- after writes of the other session
pub yields : (k j : ℕ) (start start' : Option Base) (H H' : List Entry) (t : Task) → MayAppend → k ≢ j → Contends k j start H t → start' ≡ start → (more : List Entry) × (H' ≡ H ++ more) × AllBy j more → Contends k j start' H' t
yields k j start start' H H' t append apart c same grown = record {
  mine = c.mine;
  known = subst (λ (J : List Entry). (k < opened_in J) × (j < opened_in J)) (sym grown.1) (longer k H grown.0 c.known.0, longer j H grown.0 c.known.1);
  stands = subst (λ (z : Option Base × List Entry). StandsOn z.0 z.1 t) (λ i. (sym same i, sym grown.1 i)) (append start H grown.0 t (others_idle j t.session grown.0 (λ e. apart (sym c.mine ∙ e)) grown.2) c.stands);
}
