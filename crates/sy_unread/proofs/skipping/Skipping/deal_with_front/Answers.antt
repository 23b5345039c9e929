use Rattle.sy_unread.proofs.skipping.Skipping.deal_with_front.Goals as goal

pub returns-in-Frame-clause-turn : goal.returns-in-Frame-clause-turn
returns-in-Frame-clause-turn g c = c.begin_frame.ensures (g.K.LongSink.kept c.args.self.now.sink) (g.S.Source.remaining c.args.self.now.source)
