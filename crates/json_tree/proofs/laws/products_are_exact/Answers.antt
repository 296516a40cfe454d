use Rattle.json_tree.proofs.Products.{product_is, product_refused}
use Rattle.json_tree.proofs.laws.products_are_exact.Goals as goal

pub returns : goal.returns
returns c = record { exact = product_is; refused = product_refused }
