-- The elements before the place of the address move one place on, and the entry goes first.
use Rattle.std.proofs.Common.{◌≡◌, ℕ, List, length, rules, ap, ◌∙◌, Some, Option, unwrap_or}
use lib.ListN.{set}
use Rattle.std.specs.List.{copy_within}
use Rattle.client.specs.Cache.{is_for}
use Rattle.client.specs.declared.cache.Entry.{Entry}
use Rattle.client.proofs.Remembered.{moved_on}
use Rattle.client.proofs.cache.remember.Goals as goal

pub returns : goal.returns
returns c =
    let es = c.args.cache.now in
    let n : length es ≡ 32 = search rules in
    let end = c.unwrap_or-end.ensures ∙ ap (λ (o : Option ℕ). unwrap_or o 31) c.place_of.ensures in
    ap (λ (s : List (Option Entry)). set s 0 (Some c.args.e)) (c.copy_within.ensures.after ∙ ap (λ (k : ℕ). copy_within es 0 k 1) end)
    ∙ moved_on (is_for c.args.e.addr) (Some c.args.e) es n
