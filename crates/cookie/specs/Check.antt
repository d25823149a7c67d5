-- What the code makes of an opening's option, in one value. No document has it: it carries `right` and `cookie_under` to the code.
-- Assumes nothing.
use Rattle.std.specs.Prelude.{ℕ, List, Option, None, Some, cond, not, ◌&&◌}
use Rattle.protocol.specs.Cookie.{Carried, counts, cookie_under, right_under, right}
use Rattle.protocol.specs.declared.state.Keys.{Keys}
use Rattle.cookie.specs.declared.OptionCheck.{OptionCheck}

-- the fresh cookie, under the present key, that goes with the SYN-ACK to an option that counts, unless it has that very one
abbrev pub fresh_for : Keys → List ℕ → Carried → Option (List ℕ)
fresh_for k b o = cond (counts o && not (right_under k.present b o)) (Some (cookie_under k.present b)) None

abbrev pub option_check : Keys → List ℕ → Carried → OptionCheck
option_check k b o = record { right = right k b o; fresh = fresh_for k b o }
