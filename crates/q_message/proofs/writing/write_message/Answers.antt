use Rattle.std.proofs.Common.{refl, length}
use Rattle.q_message.proofs.NewFileLaws.{file_of, file_reads}
use Rattle.q_message.proofs.writing.write_message.Goals as goal

pub returns-clause-written : goal.returns-clause-written
returns-clause-written c =
    file_of c.args.head.now c.args.to.now c.args.content.now c.len.result (length c.args.content.now) c.in_ok-out.out.items c.push_recipients.new.out.items c.push_content.new.out.items c.from_vec.result
    c.len.ensures refl c.in_ok-out.ensures.written c.in_ok-push_recipients.ensures.written c.in_ok-push_content.ensures c.from_vec.ensures

pub returns-clause-reads : goal.returns-clause-reads
returns-clause-reads c =
    file_reads c.args.head.now c.args.to.now c.args.content.now c.from_vec.result c.requires.arrival c.requires.some c.requires.few c.requires.short c.in_ok-out.ensures.form c.in_ok-push_recipients.ensures.forms
    c.requires.others (returns-clause-written c)
