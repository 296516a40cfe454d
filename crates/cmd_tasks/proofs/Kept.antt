-- What counting without a write keeps of where a command stands that takes many documents.
use Rattle.std.proofs.Common.{◌≡◌, ℕ, ◌+◌, List, [], ◌∷◌, Bool, true, false, Option, refl, ◌∙◌, arith}
use Rattle.std.specs.Prelude.{◌&&◌, nat_lt, if◌then◌else◌}
use Rattle.json_tree.specs.Tree.{Tree}
use Rattle.cmd_tasks.specs.Trace.{Found}
use Rattle.cmd_tasks.specs.Doing.{Doing, change_of}
use Rattle.cmd_tasks.specs.Taking.{Shown, Standing, Put, count, is_unchanged, settled}

plus_none : (n : ℕ) → n + 0 ≡ n
plus_none n = omega arith

-- whatever a count without a write and another queue leave as it is
settled_keeps : {A : Type 0} (g : Standing → A) (doing : Doing) → ((x : Found) (rest : List Shown) (st : Standing) → g (count x 0 rest st) ≡ g st) → ((q : List Shown) (st : Standing) → g (record st { queue = q }) ≡ g st)
    → (queue : List Shown) (st : Standing) → g (settled doing queue st) ≡ g st
settled_keeps g doing counts queues [] st = queues [] st
settled_keeps g doing counts queues (s ∷ rest) st = elim (nat_lt st.matched 20 && is_unchanged (change_of doing s.x.doc)) as (λ b. g (if b then settled doing rest (count s.x 0 rest st) else record st { queue = s ∷ rest }) ≡ g st) [
  | true ↦ settled_keeps g doing counts queues rest (count s.x 0 rest st) ∙ counts s.x rest st
  | false ↦ queues (s ∷ rest) st
]

module _ (doing : Doing) (queue : List Shown) (st : Standing) where
  pub settled_again : (settled doing queue st).again ≡ st.again
  settled_again = settled_keeps (λ (z : Standing). z.again) doing (λ x rest z. refl) (λ q z. refl) queue st

  pub settled_put : (settled doing queue st).put ≡ st.put
  settled_put = settled_keeps (λ (z : Standing). z.put) doing (λ x rest z. refl) (λ q z. refl) queue st

  pub settled_modified : (settled doing queue st).modified ≡ st.modified
  settled_modified = settled_keeps (λ (z : Standing). z.modified) doing (λ x rest z. plus_none z.modified) (λ q z. refl) queue st

  pub settled_from : (settled doing queue st).from ≡ st.from
  settled_from = settled_keeps (λ (z : Standing). z.from) doing (λ x rest z. refl) (λ q z. refl) queue st

  pub settled_whole : (settled doing queue st).is_whole ≡ st.is_whole
  settled_whole = settled_keeps (λ (z : Standing). z.is_whole) doing (λ x rest z. refl) (λ q z. refl) queue st
