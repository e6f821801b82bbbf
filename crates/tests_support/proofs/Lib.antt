mod OneScope
