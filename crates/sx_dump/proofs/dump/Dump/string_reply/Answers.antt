use Rattle.std.proofs.Common.{rules}
use Rattle.sx_dump.proofs.dump.Dump.string_reply.Goals as goal

pub reply_by_function-requires : goal.reply_by_function-requires
reply_by_function-requires g c = c.args.self.now.viewed.func _ (search rules)

pub reply_by_lcp-requires : goal.reply_by_lcp-requires
reply_by_lcp-requires g c = c.args.self.now.viewed.lcp _ (search rules)

pub reply_by_lcp2-requires : goal.reply_by_lcp2-requires
reply_by_lcp2-requires g c = c.args.self.now.viewed.lcp2 _ (search rules)

pub reply_by_hollow-requires : goal.reply_by_hollow-requires
reply_by_hollow-requires g c = c.args.self.now.viewed.hollow _ (search rules)

pub reply_by_hollow_dist-requires-clause-dist : goal.reply_by_hollow_dist-requires-clause-dist
reply_by_hollow_dist-requires-clause-dist g c = c.args.self.now.viewed.hollow_dist _ (search rules)

pub reply_by_zfast-requires : goal.reply_by_zfast-requires
reply_by_zfast-requires g c = c.args.self.now.viewed.zfast _ (search rules)
