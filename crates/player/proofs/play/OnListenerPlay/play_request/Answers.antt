-- A request that was read is played with the first bytes of the filled output.
use Rattle.player.proofs.Playing.{ordered}
use Rattle.player.proofs.play.OnListenerPlay.play_request.Goals as goal

pub returns-in-Some : goal.returns-in-Some
returns-in-Some c =
    let s = c.args in
    let r = c.read_request in
    let e = rw c.out_len.ensures at c.first_mut.ensures in
    let p = c.play_order.ensures in
    let q = ordered s.l s.line.now r.new.a r.new.b s.text.now c.in-Some.is r.ensures e p.value p.text_after in
    record { value = q.0; text_after = q.1 }
