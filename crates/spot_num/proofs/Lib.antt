mod Newton
