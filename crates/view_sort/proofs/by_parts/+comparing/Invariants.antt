use Rattle.std.proofs.Common.{◌+◌, ◌*◌, suc, length, option_map, unwrap_or}
use Rattle.view_sort.proofs.by_parts.+comparing.Given as goal

abbrev pub decreases-parts_cmp : goal.decreases-parts_cmp
decreases-parts_cmp l = 2 * length l.text.now + 1

abbrev pub decreases-more_cmp : goal.decreases-more_cmp
decreases-more_cmp l = 2 * unwrap_or (option_map (λ t. suc (length t.now)) l.more) 0
