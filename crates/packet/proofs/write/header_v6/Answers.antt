-- The bytes that are set, and those that are copied.
use Rattle.std.proofs.Common.{◌≡◌, sym, ◌∙◌, rules}
use Rattle.segment.specs.Bytes.{be16}
use Rattle.packet.specs.Write.{sixteen_of, header_v6}
use Rattle.packet.proofs.Found.{byte_by_byte}
use Rattle.packet.proofs.write.header_v6.Goals as goal

pub returns : goal.returns
unfolding header_v6
returns c =
    let own : c.copy_from_slice-2.new.self ≡ sixteen_of c.args.own = c.copy_from_slice-2.ensures.after ∙ sym (byte_by_byte c.args.own (search rules)) in
    let dst : c.copy_from_slice-3.new.self ≡ sixteen_of c.args.dst = c.copy_from_slice-3.ensures.after ∙ sym (byte_by_byte c.args.dst (search rules)) in
    let len : c.copy_from_slice.new.self ≡ be16 c.args.n = c.copy_from_slice.ensures.after ∙ c.to_be_bytes.ensures in
    rw (len, own, dst)
