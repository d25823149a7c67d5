-- Four pieces, one behind the other.
use Rattle.console.proofs.Appended.{appends_appends}
use Rattle.console.proofs.streams.Streams.fail.Goals as goal

pub returns-clause-told : goal.returns-clause-told
returns-clause-told g c h =
    let what = c.tell.ensures.told c.if-not-tell.false in
    let colon = c.tell-2.ensures.told c.if-not-tell-2.false in
    let why = c.tell-3.ensures.told c.if-not-tell-3.false in
    let end = c.tell-4.ensures.told h in
    (_, appends_appends _ _ _ _ _ what (appends_appends _ _ _ _ _ colon (appends_appends _ _ _ _ _ why end)))
